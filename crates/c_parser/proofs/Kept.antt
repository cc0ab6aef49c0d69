-- What the program knows of a scope's names, as entries come and go.
use Rattle.std.proofs.Common.{◌≡◌, ℕ, Bool, true, false, cond, List, [], ◌∷◌, ◌++◌, map, Option, Some, None, Result}
use Rattle.std.proofs.Common.{Ok, Err, refl, sym, ◌∙◌, ap, subst}
use Rattle.std.specs.BTreeMap.{BTreeMap, get, Updates}
use Rattle.std.specs.Cmp.Lexicographic.{slice_cmp, texts_ties}
use Rattle.std.specs.Option.{unwrap_or, option_to_list}
use Rattle.std.specs.Ordering.{nat_cmp, is_eq}
use Rattle.std.specs.Result.{OnOk, OnErr}
use Rattle.std.specs.Str.{bytes_eq}
use Rattle.std.proofs.lemmas.Slice.Eq.{bytes_eq-Decides}
use Rattle.c_parser.specs.declared.scope.Entry.{Entry}
use Rattle.c_parser.specs.Known.{Known, none_known, known_behind, known_from, Hides, IsKept}
use Rattle.c_syntax.specs.Scopes.{is_type_from, is_type}

-- ---- one entry more

known_more : (before : Known) (entries : List Entry) (last : Entry) (x : List ℕ)
    → known_from before (entries ++ last ∷ []) x ≡ known_behind (known_from before entries) last x
known_more before [] last x = refl
known_more before (first ∷ rest) last x = known_more (known_behind before first) rest last x

hides_more : (before : Known) (entries : List Entry) (last : Entry)
    → Hides before entries → last.hidden ≡ known_from before entries last.name → Hides before (entries ++ last ∷ [])
hides_more before [] last all here = (here, tt)
hides_more before (first ∷ rest) last all here = (all.0, hides_more (known_behind before first) rest last all.1 here)

hides_less : (before : Known) (entries : List Entry) (last : Entry)
    → Hides before (entries ++ last ∷ []) → Hides before entries
hides_less before [] last all = tt
hides_less before (first ∷ rest) last all = (all.0, hides_less (known_behind before first) rest last all.1)

last_hides : (before : Known) (entries : List Entry) (last : Entry)
    → Hides before (entries ++ last ∷ []) → last.hidden ≡ known_from before entries last.name
last_hides before [] last all = all.0
last_hides before (first ∷ rest) last all = last_hides (known_behind before first) rest last all.1

-- ---- the map

found_at : (name x : List ℕ) → is_eq (slice_cmp nat_cmp name x) ≡ bytes_eq name x
found_at name x = sym (texts_ties name x)

pub kept_more : (entries : List Entry) (last : Entry) (old new : BTreeMap (List ℕ) Bool)
    → IsKept entries old → last.hidden ≡ get (slice_cmp nat_cmp) old last.name
    → Updates (slice_cmp nat_cmp) old new last.name (Some last.names_type) → IsKept (entries ++ last ∷ []) new
kept_more entries last old new kept hidden updates = record {
  known = λ x. updates.0 x
      ∙ ap (λ here. cond here (Some last.names_type) (get (slice_cmp nat_cmp) old x)) (found_at last.name x)
      ∙ ap (cond (bytes_eq last.name x) (Some last.names_type)) (kept.known x)
      ∙ sym (known_more none_known entries last x);
  hidden = hides_more none_known entries last kept.hidden (hidden ∙ kept.known last.name);
}

-- the name is that of the entry, or the entry says nothing of it
behind_hidden : (before : Known) (last : Entry) (x : List ℕ) → last.hidden ≡ before last.name
    → (same : Bool) → bytes_eq last.name x ≡ same
    → cond same last.hidden (cond same (Some last.names_type) (before x)) ≡ before x
behind_hidden before last x here true same = here ∙ ap before ((bytes_eq-Decides last.name x).0 same)
behind_hidden before last x here false same = refl

kept_less : (entries : List Entry) (last : Entry) (old new : BTreeMap (List ℕ) Bool)
    → IsKept (entries ++ last ∷ []) old → Updates (slice_cmp nat_cmp) old new last.name last.hidden → IsKept entries new
kept_less entries last old new kept updates = record {
  known = λ x. updates.0 x ∙ ap (λ here. cond here last.hidden (get (slice_cmp nat_cmp) old x)) (found_at last.name x)
      ∙ ap (cond (bytes_eq last.name x) last.hidden) (kept.known x ∙ known_more none_known entries last x)
      ∙ behind_hidden (known_from none_known entries) last x (last_hides none_known entries last kept.hidden)
      (bytes_eq last.name x) refl;
  hidden = hides_less none_known entries last kept.hidden;
}

-- the last entry's name is in the map
kept_last : (entries : List Entry) (last : Entry) (names : BTreeMap (List ℕ) Bool)
    → IsKept (entries ++ last ∷ []) names → get (slice_cmp nat_cmp) names last.name ≡ Some last.names_type
kept_last entries last names kept =
    kept.known last.name ∙ known_more none_known entries last last.name
    ∙ ap (λ same. cond same (Some last.names_type) (known_from none_known entries last.name))
    ((bytes_eq-Decides last.name last.name).1 refl)

-- so that what it hid goes in its place without fail
put_back : {A E : Type 0} (result : Result A E) (entries : List Entry) (last : Entry)
    (old new : BTreeMap (List ℕ) Bool)
    → OnOk result (Updates (slice_cmp nat_cmp) old new last.name last.hidden)
    → OnErr result (get (slice_cmp nat_cmp) old last.name ≡ None) → IsKept (entries ++ last ∷ []) old
    → IsKept entries new
put_back (Ok value) entries last old new updates absent kept = kept_less entries last old new kept updates
put_back (Err fault) entries last old new updates absent kept =
    let found : Some last.names_type ≡ None = sym (kept_last entries last old kept) ∙ absent in cc

-- ---- the last entry is taken away, which hid this

pub last_popped : (entries all : List Entry) (popped : Option Entry) (last : Entry)
    → all ≡ entries ++ option_to_list popped → popped ≡ Some last → all ≡ entries ++ last ∷ []
last_popped entries all popped last items is = items ∙ ap (λ popped. entries ++ option_to_list popped) is

module _ (entries all : List Entry) (last : Entry) (hidden : Option Bool) (old new : BTreeMap (List ℕ) Bool)
    (items : all ≡ entries ++ last ∷ []) (hid : last.hidden ≡ hidden) (kept : IsKept all old) where
  -- the name goes from the map
  pub kept_removed : Updates (slice_cmp nat_cmp) old new last.name hidden → IsKept entries new
  kept_removed updates =
      kept_less entries last old new (subst (λ all. IsKept all old) items kept)
      (subst (λ hidden. Updates (slice_cmp nat_cmp) old new last.name hidden) (sym hid) updates)

  -- or gets back what it was
  pub kept_put : {A E : Type 0} (result : Result A E)
      → OnOk result (Updates (slice_cmp nat_cmp) old new last.name hidden)
      → OnErr result (get (slice_cmp nat_cmp) old last.name ≡ None) → IsKept entries new
  kept_put result updates absent =
      put_back result entries last old new
      (subst (λ hidden. OnOk result (Updates (slice_cmp nat_cmp) old new last.name hidden)) (sym hid) updates)
      absent (subst (λ all. IsKept all old) items kept)

-- ---- a look-up

one_known : (same names_type : Bool) (before : Option Bool)
    → cond same names_type (unwrap_or before false) ≡ unwrap_or (cond same (Some names_type) before) false
one_known true names_type before = refl
one_known false names_type before = refl

is_type_known : (before : Known) (entries : List Entry) (x : List ℕ)
    → is_type_from (unwrap_or (before x) false)
    (map (λ e. record { name = e.name; names_type = e.names_type }) entries) x
    ≡ unwrap_or (known_from before entries x) false
is_type_known before [] x = refl
is_type_known before (first ∷ rest) x =
    ap
    (λ known. is_type_from known (map (λ e. record { name = e.name; names_type = e.names_type }) rest) x)
    (one_known (bytes_eq first.name x) first.names_type (before x))
    ∙ is_type_known (known_behind before first) rest x

pub kept_is_type : (entries : List Entry) (names : BTreeMap (List ℕ) Bool) (x : List ℕ) → IsKept entries names
    → is_type (map (λ e. record { name = e.name; names_type = e.names_type }) entries) x
    ≡ unwrap_or (get (slice_cmp nat_cmp) names x) false
kept_is_type entries names x kept =
    is_type_known none_known entries x ∙ ap (λ known. unwrap_or known false) (sym (kept.known x))
