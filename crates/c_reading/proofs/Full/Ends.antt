-- What ends an expression: a mark that closes it, an operator of a lower level, or what ends it at a lower level.
use Rattle.std.proofs.Common.{◌≡◌, ◌≤◌, ◌<◌, ℕ, nat_le, Bool, true, false, ◌&&◌, List, Option, Some, None, refl, sym}
use Rattle.std.proofs.Common.{◌∙◌, ap, arith}
use borrow.Author.Tests.{le-leb, lt-leb, leb-true}
use Rattle.c_lexer.specs.declared.punct.Punct.{Punct}
use Rattle.c_lexer.specs.declared.punct.Punct.TheVariants as p
use Rattle.c_lexer.specs.declared.token.Token.{Token}
use Rattle.c_lexer.specs.declared.token.Body.TheVariants as lexeme
use Rattle.c_syntax.specs.declared.operator.Arithmetic.{Arithmetic}
use Rattle.c_syntax.specs.declared.operator.Arithmetic.TheVariants as a
use Rattle.c_syntax.specs.declared.operator.Comparison.{Comparison}
use Rattle.c_syntax.specs.declared.operator.Comparison.TheVariants as c
use Rattle.c_syntax.specs.declared.operator.Infix.{Infix}
use Rattle.c_syntax.specs.declared.operator.Infix.TheVariants as between
use Rattle.c_syntax.specs.Levels.{conditional, cast, infix_level}
use Rattle.c_syntax.specs.Operators.{arithmetic_token, assignment_token, comparison_token, infix_token}
use Rattle.c_reading.specs.Parser.{next_body}
use Rattle.c_reading.specs.ReadExpr.{Parsers, goes_postfix, goes_between}
use Rattle.c_reading.specs.ReadToken.{is_mark, is_literal, infix_of}
use Rattle.c_syntax.specs.Tree.{Expr}
use Rattle.c_reading.proofs.Full.Law.{EndsExpr}
use Rattle.c_reading.proofs.LevelLaws.{infix_low}

-- ---- operators between operands, read again

arithmetic_again : (operator : Arithmetic) → infix_of (Some (lexeme.Mark (arithmetic_token operator)))
    ≡ Some (between.Arithmetic operator)
arithmetic_again a.Multiply = refl
arithmetic_again a.Divide = refl
arithmetic_again a.Remainder = refl
arithmetic_again a.Add = refl
arithmetic_again a.Subtract = refl
arithmetic_again a.ShiftLeft = refl
arithmetic_again a.ShiftRight = refl
arithmetic_again a.BitAnd = refl
arithmetic_again a.BitXor = refl
arithmetic_again a.BitOr = refl

compound_again : (operator : Arithmetic) → infix_of (Some (lexeme.Mark (assignment_token operator)))
    ≡ Some (between.AssignOp operator)
compound_again a.Multiply = refl
compound_again a.Divide = refl
compound_again a.Remainder = refl
compound_again a.Add = refl
compound_again a.Subtract = refl
compound_again a.ShiftLeft = refl
compound_again a.ShiftRight = refl
compound_again a.BitAnd = refl
compound_again a.BitXor = refl
compound_again a.BitOr = refl

comparison_again : (operator : Comparison) → infix_of (Some (lexeme.Mark (comparison_token operator)))
    ≡ Some (between.Comparison operator)
comparison_again c.Less = refl
comparison_again c.Greater = refl
comparison_again c.LessEqual = refl
comparison_again c.GreaterEqual = refl
comparison_again c.Equal = refl
comparison_again c.NotEqual = refl

-- the operator of a token is that which is spelled by it
pub infix_again : (operator : Infix) → infix_of (Some (lexeme.Mark (infix_token operator))) ≡ Some operator
infix_again (between.Arithmetic operator) = arithmetic_again operator
infix_again (between.Comparison operator) = comparison_again operator
infix_again between.AndAlso = refl
infix_again between.OrElse = refl
infix_again between.Assign = refl
infix_again (between.AssignOp operator) = compound_again operator
infix_again between.Comma = refl

module _ (k : ℕ) (low : Parsers) (left : Expr) where
  arithmetic_ends : (operator : Arithmetic) → goes_postfix left (Some (lexeme.Mark (arithmetic_token operator))) ≡ false
  arithmetic_ends a.Multiply = refl
  arithmetic_ends a.Divide = refl
  arithmetic_ends a.Remainder = refl
  arithmetic_ends a.Add = refl
  arithmetic_ends a.Subtract = refl
  arithmetic_ends a.ShiftLeft = refl
  arithmetic_ends a.ShiftRight = refl
  arithmetic_ends a.BitAnd = refl
  arithmetic_ends a.BitXor = refl
  arithmetic_ends a.BitOr = refl

  compound_ends : (operator : Arithmetic) → goes_postfix left (Some (lexeme.Mark (assignment_token operator))) ≡ false
  compound_ends a.Multiply = refl
  compound_ends a.Divide = refl
  compound_ends a.Remainder = refl
  compound_ends a.Add = refl
  compound_ends a.Subtract = refl
  compound_ends a.ShiftLeft = refl
  compound_ends a.ShiftRight = refl
  compound_ends a.BitAnd = refl
  compound_ends a.BitXor = refl
  compound_ends a.BitOr = refl

  comparison_ends : (operator : Comparison) → goes_postfix left (Some (lexeme.Mark (comparison_token operator))) ≡ false
  comparison_ends c.Less = refl
  comparison_ends c.Greater = refl
  comparison_ends c.LessEqual = refl
  comparison_ends c.GreaterEqual = refl
  comparison_ends c.Equal = refl
  comparison_ends c.NotEqual = refl

  infix_ends : (operator : Infix) → goes_postfix left (Some (lexeme.Mark (infix_token operator))) ≡ false
  infix_ends (between.Arithmetic operator) = arithmetic_ends operator
  infix_ends (between.Comparison operator) = comparison_ends operator
  infix_ends between.AndAlso = refl
  infix_ends between.OrElse = refl
  infix_ends between.Assign = refl
  infix_ends (between.AssignOp operator) = compound_ends operator
  infix_ends between.Comma = refl

-- ---- tests

mark_no_literal : (wide : Bool) (mark : Punct) → is_literal wide (Some (lexeme.Mark mark)) ≡ false
mark_no_literal true mark = refl
mark_no_literal false mark = refl

first_false : (b c : Bool) → b ≡ false → (b && c) ≡ false
first_false true c h = absurd (cc)
first_false false c h = refl

pub second_false : (b c : Bool) → c ≡ false → (b && c) ≡ false
second_false true c h = h
second_false false c h = refl

-- a stronger test on the left
fewer : (strong weak other : Bool) → (strong ≡ true → weak ≡ true) → (weak && other) ≡ false → (strong && other) ≡ false
fewer true weak other leads h = ap (λ b. b && other) (sym (leads refl)) ∙ h
fewer false weak other leads h = refl

higher_test : (level higher n : ℕ) → level ≤ higher → nat_le higher n ≡ true → nat_le level n ≡ true
higher_test level higher n low h = let e = leb-true higher n h in le-leb level n (omega arith)

module _ (k : ℕ) (low : Parsers) (left : Expr) where
  -- below the level that is wanted
  between_below : (level : ℕ) (operator : Infix) (question : Bool) → infix_level operator < level
      → goes_between level left (Some operator) question ≡ false
  between_below level operator question below = first_false _ _ (lt-leb level (infix_level operator) below)

  between_question : (level : ℕ) (question : Bool) → conditional < level → goes_between level left None question ≡ false
  between_question level question below =
      first_false (question && nat_le level conditional) _
      (second_false question (nat_le level conditional) (lt-leb level conditional below))

  between_up : (level higher : ℕ) (operator : Option Infix) (question : Bool) → level ≤ higher
      → goes_between level left operator question ≡ false → goes_between higher left operator question ≡ false
  between_up level higher (Some operator) question below h =
      fewer _ _ _ (higher_test level higher (infix_level operator) below) h
  between_up level higher None question below h =
      fewer (question && nat_le higher conditional) (question && nat_le level conditional) _
      (under question (higher_test level higher conditional below)) h
    where
      under : (b : Bool) {strong weak : Bool} → (strong ≡ true → weak ≡ true) → (b && strong) ≡ true
          → (b && weak) ≡ true
      under true leads h = leads h
      under false leads h = h

-- ---- what follows an expression

-- a mark that goes on with no expression
pub ends_closed : (level : ℕ) (tokens : List Token) (mark : Punct) → next_body tokens ≡ Some (lexeme.Mark mark)
    → ((k : ℕ) (low : Parsers) (left : Expr) → goes_postfix left (Some (lexeme.Mark mark)) ≡ false)
    → infix_of (Some (lexeme.Mark mark)) ≡ None → is_mark p.Question (Some (lexeme.Mark mark)) ≡ false
    → EndsExpr level tokens
ends_closed level tokens mark e no_postfix no_infix no_question = record {
  no_literal = λ wide. ap (is_literal wide) e ∙ mark_no_literal wide mark;
  no_postfix = λ k low left. ap (goes_postfix left) e ∙ no_postfix k low left;
  no_infix = λ k low left.
      ap (λ o. goes_between level left (infix_of o) (is_mark p.Question o)) e
      ∙ ap (λ operator. goes_between level left operator (is_mark p.Question (Some (lexeme.Mark mark)))) no_infix
      ∙ ap (λ question. goes_between level left None question) no_question;
}

-- an operator of a lower level than the expression
pub ends_infix : (level : ℕ) (tokens : List Token) (operator : Infix)
    → next_body tokens ≡ Some (lexeme.Mark (infix_token operator)) → infix_level operator < level
    → EndsExpr level tokens
ends_infix level tokens operator e below = record {
  no_literal = λ wide. ap (is_literal wide) e ∙ mark_no_literal wide (infix_token operator);
  no_postfix = λ k low left. ap (goes_postfix left) e ∙ infix_ends k low left operator;
  no_infix = λ k low left.
      ap (λ o. goes_between level left (infix_of o) (is_mark p.Question o)) e
      ∙ ap (λ m. goes_between level left m (is_mark p.Question (Some (lexeme.Mark (infix_token operator)))))
      (infix_again operator)
      ∙ between_below k low left level operator (is_mark p.Question (Some (lexeme.Mark (infix_token operator)))) below;
}

-- the question mark of a conditional expression around it
pub ends_question : (level : ℕ) (tokens : List Token) → next_body tokens ≡ Some (lexeme.Mark p.Question)
    → conditional < level → EndsExpr level tokens
ends_question level tokens e below = record {
  no_literal = λ wide. ap (is_literal wide) e ∙ mark_no_literal wide p.Question;
  no_postfix = λ k low left. ap (goes_postfix left) e;
  no_infix = λ k low left.
      ap (λ o. goes_between level left (infix_of o) (is_mark p.Question o)) e
      ∙ between_question k low left level true below;
}

-- what ends an expression ends one of each higher level
pub ends_up : (level higher : ℕ) (rest : List Token) → level ≤ higher → EndsExpr level rest → EndsExpr higher rest
ends_up level higher rest below ends = record {
  no_literal = ends.no_literal;
  no_postfix = ends.no_postfix;
  no_infix = λ k low left. between_up k low left level higher (infix_of (next_body rest))
      (is_mark p.Question (next_body rest)) below (ends.no_infix k low left);
}

-- no operator stands between operands at these levels
pub ends_high : (level higher : ℕ) (rest : List Token) → cast ≤ higher → EndsExpr level rest → EndsExpr higher rest
ends_high level higher rest high ends = record {
  no_literal = ends.no_literal;
  no_postfix = ends.no_postfix;
  no_infix = λ k low left. by k low left (infix_of (next_body rest)) (is_mark p.Question (next_body rest));
}
  where
    by : (k : ℕ) (low : Parsers) (left : Expr) (operator : Option Infix) (question : Bool)
        → goes_between higher left operator question ≡ false
    by k low left None question = between_question k low left higher question (omega arith)
    by k low left (Some operator) question =
        between_below k low left higher operator question (omega (arith, infix_low operator))
