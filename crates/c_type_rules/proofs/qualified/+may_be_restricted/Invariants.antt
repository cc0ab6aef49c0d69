-- The elements of an array have lower ids.
use Rattle.c_type_rules.proofs.qualified.+may_be_restricted.Given as goal

abbrev pub decreases-may_be_restricted : goal.decreases-may_be_restricted
decreases-may_be_restricted l = l.id.0
