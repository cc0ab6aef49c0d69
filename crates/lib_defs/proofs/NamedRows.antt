-- The rows by name: the facts at the values of a line, and the laws.
use Rattle.std.proofs.Common.{◌≡◌, List, [], map, Some, refl, subst}
use Rattle.std.proofs.lemmas.Option.{same_Some}
use Rattle.lib_defs.specs.declared.row_name.RowName.{RowName}
use Rattle.lib_defs.specs.declared.row_name.RowName.TheVariants as n
use Rattle.lib_defs.specs.declared.value.Value.{Value}
use Rattle.lib_defs.specs.declared.violation.Violation.{Violation}
use Rattle.lib_defs.specs.Units.{byte_narrow, wide_narrow}
use Rattle.lib_defs.specs.Constraints.{classes}
use Rattle.lib_defs.specs.Rules.{Rule}
use Rattle.lib_defs.specs.MemoryRows.{copy_row, move_row, fill_row}
use Rattle.lib_defs.specs.TextRows.{length_row, text_copy_row, part_copy_row, append_row, part_append_row}
use Rattle.lib_defs.specs.TokenRows.{token_row}
use Rattle.lib_defs.specs.OtherRows.{error_text_row, error_length_row, wide_char_row}
use Rattle.lib_defs.specs.RowTable.{ptr, count, num, modulo_byte, rule_of, row_classes}
use Rattle.lib_defs.specs.Shown.{value_shown, values_if}
use Rattle.lib_defs.specs.RuleLaws.{RuleKeeps}
use Rattle.lib_defs.proofs.MemoryLaws.{copy_keeps, move_keeps, fill_keeps}
use Rattle.lib_defs.proofs.TextLaws.{length_keeps, text_copy_keeps, append_keeps}
use Rattle.lib_defs.proofs.PartLaws.{part_copy_keeps, part_append_keeps}
use Rattle.lib_defs.proofs.TokenLaws.{token_keeps}
use Rattle.lib_defs.proofs.OtherLaws.{error_text_keeps, error_length_keeps, wide_char_keeps}
use Rattle.lib_defs.proofs.SeenFacts.{seen_pointer, ptr_seen, count_seen, num_seen, SameFacts}
use Rattle.lib_defs.proofs.SeenRows.{copy_facts, move_facts, fill_facts, text_copy_facts, part_copy_facts}
use Rattle.lib_defs.proofs.SeenRows.{append_facts, part_append_facts, token_facts, error_text_facts, wide_char_facts}
use Rattle.lib_defs.proofs.SeenRows.{length_facts, error_length_facts}

-- What is known of a row: the row at the values of its line, with the same facts; its classes and failure values are
-- those of its name; and it keeps the laws.
pub record Facts (name : RowName) (v : List Value) (r : Rule) : Type 0 where
  pub seen : Rule
  pub is : rule_of name (map value_shown (values_if (row_classes name) v)) ≡ Some seen
  pub same : SameFacts r seen
  pub classes : classes r.constraints ≡ row_classes name
  pub named : Rule
  pub named_is : rule_of name [] ≡ Some named
  pub failure : (class : Violation) → r.failure class ≡ named.failure class
  pub keeps : RuleKeeps r

of_rule : (name : RowName) (v : List Value) (r q : Rule) → Some q ≡ Some r → (seen : Rule)
    → rule_of name (map value_shown (values_if (row_classes name) v)) ≡ Some seen → SameFacts q seen
    → classes q.constraints ≡ row_classes name → (named : Rule) → rule_of name [] ≡ Some named
    → ((class : Violation) → q.failure class ≡ named.failure class) → RuleKeeps q → Facts name v r
of_rule name v r q e seen is same classes_are named named_is failure keeps =
    subst (λ r. Facts name v r) (same_Some q r e)
    (record {
      seen = seen;
      is = is;
      same = same;
      classes = classes_are;
      named = named;
      named_is = named_is;
      failure = failure;
      keeps = keeps;
    })

pub facts_of : (name : RowName) (v : List Value) (r : Rule) → rule_of name v ≡ Some r → Facts name v r
facts_of n.MemcpyS v r e = of_rule n.MemcpyS v r (copy_row 1 (ptr v 0) (count v 1) (ptr v 2) (count v 3)) e
    (copy_row 1 (seen_pointer (ptr v 0)) (count v 1) (seen_pointer (ptr v 2)) (count v 3))
    (rw (ptr_seen v 0, count_seen v 1, ptr_seen v 2, count_seen v 3) refl)
    (copy_facts 1 (ptr v 0) (count v 1) (ptr v 2) (count v 3))
    refl (copy_row 1 (ptr [] 0) (count [] 1) (ptr [] 2) (count [] 3)) refl (λ class. refl)
    (copy_keeps 1 (ptr v 0) (count v 1) (ptr v 2) (count v 3))
facts_of n.WmemcpyS v r e = of_rule n.WmemcpyS v r (copy_row 4 (ptr v 0) (count v 1) (ptr v 2) (count v 3)) e
    (copy_row 4 (seen_pointer (ptr v 0)) (count v 1) (seen_pointer (ptr v 2)) (count v 3))
    (rw (ptr_seen v 0, count_seen v 1, ptr_seen v 2, count_seen v 3) refl)
    (copy_facts 4 (ptr v 0) (count v 1) (ptr v 2) (count v 3))
    refl (copy_row 4 (ptr [] 0) (count [] 1) (ptr [] 2) (count [] 3)) refl (λ class. refl)
    (copy_keeps 4 (ptr v 0) (count v 1) (ptr v 2) (count v 3))
facts_of n.MemmoveS v r e = of_rule n.MemmoveS v r (move_row 1 (ptr v 0) (count v 1) (ptr v 2) (count v 3)) e
    (move_row 1 (seen_pointer (ptr v 0)) (count v 1) (seen_pointer (ptr v 2)) (count v 3))
    (rw (ptr_seen v 0, count_seen v 1, ptr_seen v 2, count_seen v 3) refl)
    (move_facts 1 (ptr v 0) (count v 1) (ptr v 2) (count v 3))
    refl (move_row 1 (ptr [] 0) (count [] 1) (ptr [] 2) (count [] 3)) refl (λ class. refl)
    (move_keeps 1 (ptr v 0) (count v 1) (ptr v 2) (count v 3))
facts_of n.WmemmoveS v r e = of_rule n.WmemmoveS v r (move_row 4 (ptr v 0) (count v 1) (ptr v 2) (count v 3)) e
    (move_row 4 (seen_pointer (ptr v 0)) (count v 1) (seen_pointer (ptr v 2)) (count v 3))
    (rw (ptr_seen v 0, count_seen v 1, ptr_seen v 2, count_seen v 3) refl)
    (move_facts 4 (ptr v 0) (count v 1) (ptr v 2) (count v 3))
    refl (move_row 4 (ptr [] 0) (count [] 1) (ptr [] 2) (count [] 3)) refl (λ class. refl)
    (move_keeps 4 (ptr v 0) (count v 1) (ptr v 2) (count v 3))
facts_of n.MemsetS v r e = of_rule n.MemsetS v r (fill_row (ptr v 0) (count v 1) (modulo_byte (num v 2)) (count v 3)) e
    (fill_row (seen_pointer (ptr v 0)) (count v 1) (modulo_byte (num v 2)) (count v 3))
    (rw (ptr_seen v 0, count_seen v 1, num_seen v 2, count_seen v 3) refl)
    (fill_facts (ptr v 0) (count v 1) (modulo_byte (num v 2)) (count v 3))
    refl (fill_row (ptr [] 0) (count [] 1) (modulo_byte (num [] 2)) (count [] 3)) refl (λ class. refl)
    (fill_keeps (ptr v 0) (count v 1) (modulo_byte (num v 2)) (count v 3))
facts_of n.StrcpyS v r e = of_rule n.StrcpyS v r (text_copy_row 1 (ptr v 0) (count v 1) (ptr v 2)) e
    (text_copy_row 1 (seen_pointer (ptr v 0)) (count v 1) (seen_pointer (ptr v 2)))
    (rw (ptr_seen v 0, count_seen v 1, ptr_seen v 2) refl)
    (text_copy_facts 1 (ptr v 0) (count v 1) (ptr v 2))
    refl (text_copy_row 1 (ptr [] 0) (count [] 1) (ptr [] 2)) refl (λ class. refl)
    (text_copy_keeps 1 byte_narrow.0 (ptr v 0) (count v 1) (ptr v 2))
facts_of n.WcscpyS v r e = of_rule n.WcscpyS v r (text_copy_row 4 (ptr v 0) (count v 1) (ptr v 2)) e
    (text_copy_row 4 (seen_pointer (ptr v 0)) (count v 1) (seen_pointer (ptr v 2)))
    (rw (ptr_seen v 0, count_seen v 1, ptr_seen v 2) refl)
    (text_copy_facts 4 (ptr v 0) (count v 1) (ptr v 2))
    refl (text_copy_row 4 (ptr [] 0) (count [] 1) (ptr [] 2)) refl (λ class. refl)
    (text_copy_keeps 4 wide_narrow.0 (ptr v 0) (count v 1) (ptr v 2))
facts_of n.StrncpyS v r e = of_rule n.StrncpyS v r (part_copy_row 1 (ptr v 0) (count v 1) (ptr v 2) (count v 3)) e
    (part_copy_row 1 (seen_pointer (ptr v 0)) (count v 1) (seen_pointer (ptr v 2)) (count v 3))
    (rw (ptr_seen v 0, count_seen v 1, ptr_seen v 2, count_seen v 3) refl)
    (part_copy_facts 1 (ptr v 0) (count v 1) (ptr v 2) (count v 3))
    refl (part_copy_row 1 (ptr [] 0) (count [] 1) (ptr [] 2) (count [] 3)) refl (λ class. refl)
    (part_copy_keeps 1 byte_narrow.0 (ptr v 0) (count v 1) (ptr v 2) (count v 3))
facts_of n.WcsncpyS v r e = of_rule n.WcsncpyS v r (part_copy_row 4 (ptr v 0) (count v 1) (ptr v 2) (count v 3)) e
    (part_copy_row 4 (seen_pointer (ptr v 0)) (count v 1) (seen_pointer (ptr v 2)) (count v 3))
    (rw (ptr_seen v 0, count_seen v 1, ptr_seen v 2, count_seen v 3) refl)
    (part_copy_facts 4 (ptr v 0) (count v 1) (ptr v 2) (count v 3))
    refl (part_copy_row 4 (ptr [] 0) (count [] 1) (ptr [] 2) (count [] 3)) refl (λ class. refl)
    (part_copy_keeps 4 wide_narrow.0 (ptr v 0) (count v 1) (ptr v 2) (count v 3))
facts_of n.StrcatS v r e = of_rule n.StrcatS v r (append_row 1 (ptr v 0) (count v 1) (ptr v 2)) e
    (append_row 1 (seen_pointer (ptr v 0)) (count v 1) (seen_pointer (ptr v 2)))
    (rw (ptr_seen v 0, count_seen v 1, ptr_seen v 2) refl)
    (append_facts 1 (ptr v 0) (count v 1) (ptr v 2))
    refl (append_row 1 (ptr [] 0) (count [] 1) (ptr [] 2)) refl (λ class. refl)
    (append_keeps 1 byte_narrow.0 (ptr v 0) (count v 1) (ptr v 2))
facts_of n.WcscatS v r e = of_rule n.WcscatS v r (append_row 4 (ptr v 0) (count v 1) (ptr v 2)) e
    (append_row 4 (seen_pointer (ptr v 0)) (count v 1) (seen_pointer (ptr v 2)))
    (rw (ptr_seen v 0, count_seen v 1, ptr_seen v 2) refl)
    (append_facts 4 (ptr v 0) (count v 1) (ptr v 2))
    refl (append_row 4 (ptr [] 0) (count [] 1) (ptr [] 2)) refl (λ class. refl)
    (append_keeps 4 wide_narrow.0 (ptr v 0) (count v 1) (ptr v 2))
facts_of n.StrncatS v r e = of_rule n.StrncatS v r (part_append_row 1 (ptr v 0) (count v 1) (ptr v 2) (count v 3)) e
    (part_append_row 1 (seen_pointer (ptr v 0)) (count v 1) (seen_pointer (ptr v 2)) (count v 3))
    (rw (ptr_seen v 0, count_seen v 1, ptr_seen v 2, count_seen v 3) refl)
    (part_append_facts 1 (ptr v 0) (count v 1) (ptr v 2) (count v 3))
    refl (part_append_row 1 (ptr [] 0) (count [] 1) (ptr [] 2) (count [] 3)) refl (λ class. refl)
    (part_append_keeps 1 byte_narrow.0 (ptr v 0) (count v 1) (ptr v 2) (count v 3))
facts_of n.WcsncatS v r e = of_rule n.WcsncatS v r (part_append_row 4 (ptr v 0) (count v 1) (ptr v 2) (count v 3)) e
    (part_append_row 4 (seen_pointer (ptr v 0)) (count v 1) (seen_pointer (ptr v 2)) (count v 3))
    (rw (ptr_seen v 0, count_seen v 1, ptr_seen v 2, count_seen v 3) refl)
    (part_append_facts 4 (ptr v 0) (count v 1) (ptr v 2) (count v 3))
    refl (part_append_row 4 (ptr [] 0) (count [] 1) (ptr [] 2) (count [] 3)) refl (λ class. refl)
    (part_append_keeps 4 wide_narrow.0 (ptr v 0) (count v 1) (ptr v 2) (count v 3))
facts_of n.StrtokS v r e = of_rule n.StrtokS v r (token_row 1 (ptr v 0) (ptr v 1) (ptr v 2) (ptr v 3)) e
    (token_row 1 (seen_pointer (ptr v 0)) (seen_pointer (ptr v 1)) (seen_pointer (ptr v 2)) (seen_pointer (ptr v 3)))
    (rw (ptr_seen v 0, ptr_seen v 1, ptr_seen v 2, ptr_seen v 3) refl)
    (token_facts 1 (ptr v 0) (ptr v 1) (ptr v 2) (ptr v 3))
    refl (token_row 1 (ptr [] 0) (ptr [] 1) (ptr [] 2) (ptr [] 3)) refl (λ class. refl)
    (token_keeps 1 (ptr v 0) (ptr v 1) (ptr v 2) (ptr v 3))
facts_of n.WcstokS v r e = of_rule n.WcstokS v r (token_row 4 (ptr v 0) (ptr v 1) (ptr v 2) (ptr v 3)) e
    (token_row 4 (seen_pointer (ptr v 0)) (seen_pointer (ptr v 1)) (seen_pointer (ptr v 2)) (seen_pointer (ptr v 3)))
    (rw (ptr_seen v 0, ptr_seen v 1, ptr_seen v 2, ptr_seen v 3) refl)
    (token_facts 4 (ptr v 0) (ptr v 1) (ptr v 2) (ptr v 3))
    refl (token_row 4 (ptr [] 0) (ptr [] 1) (ptr [] 2) (ptr [] 3)) refl (λ class. refl)
    (token_keeps 4 (ptr v 0) (ptr v 1) (ptr v 2) (ptr v 3))
facts_of n.StrerrorS v r e = of_rule n.StrerrorS v r (error_text_row (ptr v 0) (count v 1) (num v 2)) e
    (error_text_row (seen_pointer (ptr v 0)) (count v 1) (num v 2))
    (rw (ptr_seen v 0, count_seen v 1, num_seen v 2) refl)
    (error_text_facts (ptr v 0) (count v 1) (num v 2))
    refl (error_text_row (ptr [] 0) (count [] 1) (num [] 2)) refl (λ class. refl)
    (error_text_keeps (ptr v 0) (count v 1) (num v 2))
facts_of n.WctombS v r e = of_rule n.WctombS v r (wide_char_row (ptr v 0) (ptr v 1) (count v 2) (num v 3)) e
    (wide_char_row (seen_pointer (ptr v 0)) (seen_pointer (ptr v 1)) (count v 2) (num v 3))
    (rw (ptr_seen v 0, ptr_seen v 1, count_seen v 2, num_seen v 3) refl)
    (wide_char_facts (ptr v 0) (ptr v 1) (count v 2) (num v 3))
    refl (wide_char_row (ptr [] 0) (ptr [] 1) (count [] 2) (num [] 3)) refl (λ class. refl)
    (wide_char_keeps (ptr v 0) (ptr v 1) (count v 2) (num v 3))
facts_of n.StrnlenS v r e = of_rule n.StrnlenS v r (length_row 1 (ptr v 0) (count v 1)) e
    (length_row 1 (ptr [] 0) (count [] 1))
    (refl)
    (length_facts 1 (ptr v 0) (ptr [] 0) (count v 1) (count [] 1))
    refl (length_row 1 (ptr [] 0) (count [] 1)) refl (λ class. refl)
    (length_keeps 1 (ptr v 0) (count v 1))
facts_of n.WcsnlenS v r e = of_rule n.WcsnlenS v r (length_row 4 (ptr v 0) (count v 1)) e
    (length_row 4 (ptr [] 0) (count [] 1))
    (refl)
    (length_facts 4 (ptr v 0) (ptr [] 0) (count v 1) (count [] 1))
    refl (length_row 4 (ptr [] 0) (count [] 1)) refl (λ class. refl)
    (length_keeps 4 (ptr v 0) (count v 1))
facts_of n.StrerrorlenS v r e = of_rule n.StrerrorlenS v r (error_length_row (num v 0)) e
    (error_length_row (num [] 0))
    (refl)
    (error_length_facts (num v 0) (num [] 0))
    refl (error_length_row (num [] 0)) refl (λ class. refl)
    (error_length_keeps (num v 0))
facts_of _ v r e = cc
