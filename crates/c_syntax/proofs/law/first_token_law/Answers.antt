-- Each clause of `first_token_law` is a lemma.
use Rattle.c_syntax.proofs.FirstLaws.{first_expr, first_specifiers, first_declaration, first_type_name}
use Rattle.c_syntax.proofs.FirstLaws.{first_parameter, first_member}
use Rattle.c_syntax.proofs.law.first_token_law.Goals as goal

pub returns : goal.returns
returns c = record {
  expression = first_expr;
  specifiers = first_specifiers;
  declaration = first_declaration;
  type_name = first_type_name;
  parameter = first_parameter;
  member = first_member;
}
