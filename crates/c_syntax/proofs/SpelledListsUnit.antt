-- The spelling of a node of a unit whose parts are lists, by these lists.
use Rattle.std.proofs.Common.{◌≡◌, Bool, List, [], ◌∷◌, ◌++◌, map, refl, ◌∙◌, ap, Vec, Global}
use Rattle.std.specs.List.{flat_map}
use Rattle.critical_table.specs.declared.pos.Pos.{Pos}
use Rattle.c_lexer.specs.declared.punct.Punct.TheVariants as punct
use Rattle.c_lexer.specs.declared.word.Word.TheVariants as w
use Rattle.c_syntax.specs.declared.expression.Expr as e
use Rattle.c_syntax.specs.declared.initializer.Initializer as i
use Rattle.c_syntax.specs.declared.initializer.Item as m
use Rattle.c_syntax.specs.declared.declaration.Declaration as d
use Rattle.c_syntax.specs.declared.declaration.InitDeclarator as l
use Rattle.c_syntax.specs.declared.statement.Statement as s
use Rattle.c_syntax.specs.declared.statement.BlockItem as b
use Rattle.c_syntax.specs.declared.statement.SwitchItem as w'
use Rattle.c_syntax.specs.declared.unit.Function as u
use Rattle.c_syntax.specs.Tokens.{commas, comma_if, mark, mark_at, word_at}
use Rattle.c_syntax.specs.Spelling.{spell_specifier, spell_declarator}
use Rattle.c_syntax.specs.SpellingUnit.{spell_initializer, spell_item, spelled_items, spell_init_declarator}
use Rattle.c_syntax.specs.SpellingUnit.{spell_declaration, spell_controlling, spell_statement, spell_block_item}
use Rattle.c_syntax.specs.SpellingUnit.{spell_block_items, spell_switch_item, spell_switch_items, spell_function}
use Rattle.c_syntax.specs.ViewUnit.{items}
use Rattle.c_syntax.specs.TreeUnit.{Braces, MoreItems}
use Rattle.c_syntax.specs.View.{expr_of, specifier_of, declarator_of}
use Rattle.c_syntax.specs.ViewUnit.{initializer_of, item_of, items_row, init_declarator_of, declaration_of}
use Rattle.c_syntax.specs.ViewUnit.{statement_of, block_item_of, block_row, block_items, switch_item_of, switch_row}
use Rattle.c_syntax.specs.ViewUnit.{function_of}
use Rattle.c_syntax.proofs.SpelledLists.{spells_specifiers}

-- ---- lists

items_listed : (count : _) (row : i.Row_of-Item count)
    → items_row row ≡ items (map item_of (i.items-the_row-Item count row))
items_listed count i.end_of-Item = refl
items_listed count (i.more_of-Item first rest) = ap (MoreItems (item_of first)) (items_listed _ rest)

spelled_row : (count : _) (row : i.Row_of-Item count)
    → spelled_items (items_row row) ≡ map (λ x. spell_item (item_of x)) (i.items-the_row-Item count row)
spelled_row count i.end_of-Item = refl
spelled_row count (i.more_of-Item first rest) = ap (λ more. spell_item (item_of first) ∷ more) (spelled_row _ rest)

spells_block_row : (count : _) (row : s.Row_of-BlockItem count)
    → spell_block_items (block_row row)
    ≡ flat_map (λ x. spell_block_item (block_item_of x)) (s.items-the_row-BlockItem count row)
spells_block_row count s.end_of-BlockItem = refl
spells_block_row count (s.more_of-BlockItem first rest) =
    ap (λ more. spell_block_item (block_item_of first) ++ more) (spells_block_row _ rest)

spells_switch_row : (count : _) (row : s.Row_of-SwitchItem count)
    → spell_switch_items (switch_row row)
    ≡ flat_map (λ x. spell_switch_item (switch_item_of x)) (s.items-the_row-SwitchItem count row)
spells_switch_row count s.end_of-SwitchItem = refl
spells_switch_row count (s.more_of-SwitchItem first rest) =
    ap (λ more. spell_switch_item (switch_item_of first) ++ more) (spells_switch_row _ rest)

spells_block_items : (all : List b.BlockItem)
    → spell_block_items (block_items (map block_item_of all)) ≡ flat_map (λ x. spell_block_item (block_item_of x)) all
spells_block_items [] = refl
spells_block_items (first ∷ rest) =
    ap (λ more. spell_block_item (block_item_of first) ++ more) (spells_block_items rest)

spelled_inits : (all : List l.InitDeclarator)
    → map spell_init_declarator (map init_declarator_of all)
    ≡ map (λ x. spell_init_declarator (init_declarator_of x)) all
spelled_inits [] = refl
spelled_inits (first ∷ rest) = ap (λ more. spell_init_declarator (init_declarator_of first) ∷ more) (spelled_inits rest)

-- ---- nodes

items_of : i.Initializer → (count : _) × i.Row_of-Item count
items_of (i.Braces' _ _ row _) = (_, row)
items_of _ = (_, i.end_of-Item)

-- of each node with a list: the tree of it where that is asked for, and its spelling
pub built_braces : (pos : Pos) (all : Vec m.Item Global) (comma : Bool)
    → initializer_of (i.Braces pos all comma) ≡ Braces pos (items (map item_of all.items)) comma
unfolding items_of
built_braces pos all comma =
    let row = items_of (i.Braces pos all comma) in
    ap (λ list. Braces pos list comma) (items_listed row.0 row.1
    ∙ ap (λ list. items (map item_of list)) (i.items_hidden-the_row-Item-0 all))

pub spells_braces : (pos : Pos) (all : Vec m.Item Global) (comma : Bool)
    → spell_initializer (initializer_of (i.Braces pos all comma))
    ≡ mark_at pos punct.OpenBrace ∷ commas (map (λ x. spell_item (item_of x)) all.items)
    ++ comma_if comma ++ mark punct.CloseBrace ∷ []
unfolding items_of
spells_braces pos all comma =
    let row = items_of (i.Braces pos all comma) in
    ap
    (λ list. mark_at pos punct.OpenBrace ∷ commas list ++ comma_if comma ++ mark punct.CloseBrace ∷ [])
    (spelled_row row.0 row.1 ∙ ap (map (λ x. spell_item (item_of x))) (i.items_hidden-the_row-Item-0 all))

pub spells_declaration : (declaration : d.Declaration)
    → spell_declaration (declaration_of declaration)
    ≡ flat_map (λ x. spell_specifier (specifier_of x)) declaration.specifiers.items
    ++ commas (map (λ x. spell_init_declarator (init_declarator_of x)) declaration.declarators.items)
    ++ mark punct.Semicolon ∷ []
spells_declaration declaration =
    λ i. spells_specifiers declaration.specifiers.items i
    ++ commas (spelled_inits declaration.declarators.items i) ++ mark punct.Semicolon ∷ []

block_row_of : s.Statement → (count : _) × s.Row_of-BlockItem count
block_row_of (s.Block' _ row) = (_, row)
block_row_of _ = (_, s.end_of-BlockItem)

pub spells_block : (all : Vec b.BlockItem Global)
    → spell_statement (statement_of (s.Block all))
    ≡ mark punct.OpenBrace ∷ flat_map (λ x. spell_block_item (block_item_of x)) all.items ++ mark punct.CloseBrace ∷ []
unfolding block_row_of
spells_block all =
    let row = block_row_of (s.Block all) in
    ap
    (λ list. mark punct.OpenBrace ∷ list ++ mark punct.CloseBrace ∷ [])
    (spells_block_row row.0 row.1
    ∙ ap (flat_map (λ x. spell_block_item (block_item_of x))) (s.items_hidden-the_row-BlockItem-0 all))

switch_row_of : s.Statement → (count : _) × s.Row_of-SwitchItem count
switch_row_of (s.Switch' _ _ _ row) = (_, row)
switch_row_of _ = (_, s.end_of-SwitchItem)

pub spells_switch : (pos : Pos) (test : e.Expr) (all : Vec w'.SwitchItem Global)
    → spell_statement (statement_of (s.Switch pos test all))
    ≡ word_at pos w.Switch ∷ spell_controlling (expr_of test)
    ++ mark punct.OpenBrace ∷ flat_map (λ x. spell_switch_item (switch_item_of x)) all.items
    ++ mark punct.CloseBrace ∷ []
unfolding switch_row_of
spells_switch pos test all =
    let row = switch_row_of (s.Switch pos test all) in
    ap
    (λ list. word_at pos w.Switch ∷ spell_controlling (expr_of test)
    ++ mark punct.OpenBrace ∷ list ++ mark punct.CloseBrace ∷ [])
    (spells_switch_row row.0 row.1
    ∙ ap (flat_map (λ x. spell_switch_item (switch_item_of x))) (s.items_hidden-the_row-SwitchItem-1 all))

pub spells_function : (function : u.Function)
    → spell_function (function_of function)
    ≡ flat_map (λ x. spell_specifier (specifier_of x)) function.specifiers.items
    ++ spell_declarator (declarator_of function.declarator)
    ++ mark punct.OpenBrace ∷ flat_map (λ x. spell_block_item (block_item_of x)) function.body.items
    ++ mark punct.CloseBrace ∷ []
spells_function function =
    λ i. spells_specifiers function.specifiers.items i
    ++ spell_declarator (declarator_of function.declarator)
    ++ mark punct.OpenBrace ∷ spells_block_items function.body.items i ++ mark punct.CloseBrace ∷ []
