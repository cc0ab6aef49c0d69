-- The names that a list of items or of declarators adds with one more behind it.
use Rattle.std.proofs.Common.{◌≡◌, ℕ, Bool, List, [], ◌∷◌, ◌++◌, map, sym, ◌∙◌, ap, append_assoc}
use Rattle.std.proofs.lemmas.List.{append-nil}
use Rattle.c_syntax.specs.declared.initializer.Item as m
use Rattle.c_reading.specs.ReadBody.{init_declarator_adds}
use Rattle.c_syntax.specs.ViewUnit.{items}
use Rattle.c_syntax.specs.ScopesUnit.{item_adds, items_add, init_declarators_add}
use Rattle.c_syntax.specs.TreeUnit.{InitDeclarator}
use Rattle.c_syntax.specs.ViewUnit.{item_of}

pub items_add_more : (all : List m.Item) (one : m.Item) → items_add (items (map item_of (all ++ one ∷ [])))
    ≡ items_add (items (map item_of all)) ++ item_adds (item_of one)
items_add_more [] one = append-nil (item_adds (item_of one))
items_add_more (first ∷ rest) one =
    ap (λ more. item_adds (item_of first) ++ more) (items_add_more rest one)
    ∙ sym (append_assoc (item_adds (item_of first)) (items_add (items (map item_of rest)))
    (item_adds (item_of one)))

pub inits_add_more : (k : ℕ) (names_type : Bool) (all : List InitDeclarator) (one : InitDeclarator)
    → init_declarators_add names_type (all ++ one ∷ []) ≡ init_declarators_add names_type all
    ++ init_declarator_adds k names_type one
inits_add_more k names_type [] one = append-nil (init_declarator_adds k names_type one)
inits_add_more k names_type (first ∷ rest) one =
    ap (λ more. init_declarator_adds k names_type first ++ more) (inits_add_more k names_type rest one)
    ∙ sym (append_assoc (init_declarator_adds k names_type first) (init_declarators_add names_type rest)
    (init_declarator_adds k names_type one))
