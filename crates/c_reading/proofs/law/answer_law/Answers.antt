-- Each clause of `answer_law` is a lemma.
use Rattle.c_reading.proofs.AnswerLaws.{one_tree, one_refusal, not_both}
use Rattle.c_reading.proofs.RefusalLaws.{each_answered}
use Rattle.c_reading.proofs.law.answer_law.Goals as goal

pub returns : goal.returns
returns c = record { tree = one_tree; refusal = one_refusal; total = each_answered; apart = not_both }
