-- What a look-up in the table of names finds, and what the table holds after one more name.
use Rattle.std.proofs.Common.{◌≡◌, ℕ, Bool, true, false, cond, nat_eq, List, [], ◌∷◌, ◌++◌, map, Option, Some, None, is_none, refl, sym, ap, ◌∙◌, true≢false}
use Rattle.std.specs.Global.{Vec as Bytes}
use Rattle.std.specs.Map.{lookup}
use Rattle.std.specs.Option.{option_map}
use Rattle.std.proofs.lemmas.Cmp.{nat_list_eq_equiv}
use Rattle.indexmap.specs.IndexMap.{insert_entry}
use lib.Pointwise.{pointwise}
use Rattle.model_core.specs.Static.Meanings as plain
use Rattle.model_core.specs.Static.Meanings.{Declaration, meaning_of}
use Rattle.sig_types.specs.declared.names.Meaning.{Meaning}
use Rattle.sig_types.specs.Seen.{meaning_seen, declaration_of}

abbrev pub seen : List (Bytes ℕ × Meaning) → List Declaration
seen entries = map (λ (e : Bytes ℕ × Meaning). declaration_of e.0.items (meaning_seen e.1)) entries

found_or : (b c : Bool) (w : Meaning) (o : Option Meaning) (p : Option plain.Meaning) → b ≡ c → option_map meaning_seen o ≡ p → option_map meaning_seen (cond b (Some w) o) ≡ cond c (Some (meaning_seen w)) p
found_or true true w o p e h = refl
found_or false false w o p e h = h
found_or true false w o p e h = absurd (true≢false e)
found_or false true w o p e h = absurd (true≢false (sym e))

pub lookup-meaning : (name : List ℕ) (entries : List (Bytes ℕ × Meaning)) → option_map meaning_seen (lookup (λ (k : Bytes ℕ). pointwise nat_eq name k.items) entries) ≡ meaning_of (seen entries) name
lookup-meaning name [] = refl
lookup-meaning name (e ∷ entries) =
    found_or (pointwise nat_eq name e.0.items) (pointwise nat_eq e.0.items name) e.1 (lookup (λ (k : Bytes ℕ). pointwise nat_eq name k.items) entries) (meaning_of (seen entries) name)
    (nat_list_eq_equiv.symm name e.0.items) (lookup-meaning name entries)

none_seen : (o : Option Meaning) → is_none (option_map meaning_seen o) ≡ is_none o
none_seen None = refl
none_seen (Some w) = refl

-- a name is new exactly where it is looked up in vain
new_name : (name : List ℕ) (entries : List (Bytes ℕ × Meaning)) (shown : List Declaration) (o : Option Meaning)
    → seen entries ≡ shown → o ≡ lookup (λ (k : Bytes ℕ). pointwise nat_eq name k.items) entries → is_none o ≡ is_none (meaning_of shown name)
new_name name entries shown o is found =
    ap is_none found ∙ sym (none_seen (lookup (λ (k : Bytes ℕ). pointwise nat_eq name k.items) entries))
    ∙ ap is_none (lookup-meaning name entries) ∙ ap (λ ds. is_none (meaning_of ds name)) is

one_added : (b : Bool) (x : Bytes ℕ × Meaning) (xs : List (Bytes ℕ × Meaning)) (key : Bytes ℕ) (w : Meaning)
    → (lookup (λ (k : Bytes ℕ). pointwise nat_eq key.items k.items) xs ≡ None
    → seen (insert_entry (λ (a b : Bytes ℕ). pointwise nat_eq a.items b.items) xs key w) ≡ seen xs ++ declaration_of key.items (meaning_seen w) ∷ [])
    → cond b (Some x.1) (lookup (λ (k : Bytes ℕ). pointwise nat_eq key.items k.items) xs) ≡ None
    → seen (cond b ((x.0, w) ∷ xs) (x ∷ insert_entry (λ (a b : Bytes ℕ). pointwise nat_eq a.items b.items) xs key w)) ≡ seen (x ∷ xs) ++ declaration_of key.items (meaning_seen w) ∷ []
one_added true x xs key w later e = cc
one_added false x xs key w later e = ap (λ ds. declaration_of x.0.items (meaning_seen x.1) ∷ ds) (later e)

-- a new name is put at the end
pub added : (entries : List (Bytes ℕ × Meaning)) (key : Bytes ℕ) (w : Meaning)
    → lookup (λ (k : Bytes ℕ). pointwise nat_eq key.items k.items) entries ≡ None
    → seen (insert_entry (λ (a b : Bytes ℕ). pointwise nat_eq a.items b.items) entries key w) ≡ seen entries ++ declaration_of key.items (meaning_seen w) ∷ []
added [] key w e = refl
added (x ∷ xs) key w e = one_added (pointwise nat_eq key.items x.0.items) x xs key w (added xs key w) e

put_back : (b : Bool) (x : Bytes ℕ × Meaning) (xs : List (Bytes ℕ × Meaning)) (key : Bytes ℕ) (w first : Meaning) → pointwise nat_eq key.items x.0.items ≡ b
    → (lookup (λ (k : Bytes ℕ). pointwise nat_eq key.items k.items) xs ≡ Some first
    → seen (insert_entry (λ (a b : Bytes ℕ). pointwise nat_eq a.items b.items) (insert_entry (λ (a b : Bytes ℕ). pointwise nat_eq a.items b.items) xs key w) key first) ≡ seen xs)
    → cond b (Some x.1) (lookup (λ (k : Bytes ℕ). pointwise nat_eq key.items k.items) xs) ≡ Some first
    → seen (insert_entry (λ (a b : Bytes ℕ). pointwise nat_eq a.items b.items) (cond b ((x.0, w) ∷ xs) (x ∷ insert_entry (λ (a b : Bytes ℕ). pointwise nat_eq a.items b.items) xs key w)) key first) ≡ seen (x ∷ xs)
put_back true x xs key w first same later e = let is : first ≡ x.1 = cc in rw (same, is) refl
put_back false x xs key w first same later e = rw same (ap (λ ds. declaration_of x.0.items (meaning_seen x.1) ∷ ds) (later e))

-- a name that is there keeps its meaning, if that is put back
restored : (entries : List (Bytes ℕ × Meaning)) (key : Bytes ℕ) (w first : Meaning)
    → lookup (λ (k : Bytes ℕ). pointwise nat_eq key.items k.items) entries ≡ Some first
    → seen (insert_entry (λ (a b : Bytes ℕ). pointwise nat_eq a.items b.items) (insert_entry (λ (a b : Bytes ℕ). pointwise nat_eq a.items b.items) entries key w) key first) ≡ seen entries
restored [] key w first e = cc
restored (x ∷ xs) key w first e = put_back (pointwise nat_eq key.items x.0.items) x xs key w first refl (restored xs key w first) e

-- ---- one more declaration, where the key is the name

module _ (name : List ℕ) (key : Bytes ℕ) (entries : List (Bytes ℕ × Meaning)) (shown : List Declaration) (o : Option Meaning) (is : seen entries ≡ shown) (same : key.items ≡ name) (found : o ≡ lookup (λ (k : Bytes ℕ). pointwise nat_eq key.items k.items) entries) where
  pub says_new : is_none o ≡ is_none (meaning_of shown name)
  says_new = new_name key.items entries shown o is found ∙ ap (λ n. is_none (meaning_of shown n)) same

  pub puts_new : (w : Meaning) (after : List (Bytes ℕ × Meaning)) → o ≡ None → after ≡ insert_entry (λ (a b : Bytes ℕ). pointwise nat_eq a.items b.items) entries key w → seen after ≡ shown ++ declaration_of name (meaning_seen w) ∷ []
  puts_new w after none made =
      ap seen made ∙ added entries key w (sym found ∙ none) ∙ ap (λ ds. ds ++ declaration_of key.items (meaning_seen w) ∷ []) is
      ∙ ap (λ n. shown ++ declaration_of n (meaning_seen w) ∷ []) same

  pub puts_back : (w first : Meaning) (key2 : Bytes ℕ) (after last : List (Bytes ℕ × Meaning)) → o ≡ Some first → key2.items ≡ name
      → after ≡ insert_entry (λ (a b : Bytes ℕ). pointwise nat_eq a.items b.items) entries key w
      → last ≡ insert_entry (λ (a b : Bytes ℕ). pointwise nat_eq a.items b.items) after key2 first → seen last ≡ shown
  puts_back w first key2 after last there same2 made again =
      ap seen again ∙ ap (λ (es : List (Bytes ℕ × Meaning)). seen (insert_entry (λ (a b : Bytes ℕ). pointwise nat_eq a.items b.items) es key2 first)) made
      ∙ by_items key2 key (insert_entry (λ (a b : Bytes ℕ). pointwise nat_eq a.items b.items) entries key w) first (same2 ∙ sym same)
      ∙ restored entries key w first (sym found ∙ there) ∙ is
    where
      either : (b : Bool) (x : Bytes ℕ × Meaning) (v : Meaning) (xs ys zs : List (Bytes ℕ × Meaning)) → seen ys ≡ seen zs → seen (cond b ((x.0, v) ∷ xs) (x ∷ ys)) ≡ seen (cond b ((x.0, v) ∷ xs) (x ∷ zs))
      either true x v xs ys zs e = refl
      either false x v xs ys zs e = ap (λ ds. declaration_of x.0.items (meaning_seen x.1) ∷ ds) e

      by_items : (a b : Bytes ℕ) (es : List (Bytes ℕ × Meaning)) (v : Meaning) → a.items ≡ b.items
          → seen (insert_entry (λ (c d : Bytes ℕ). pointwise nat_eq c.items d.items) es a v) ≡ seen (insert_entry (λ (c d : Bytes ℕ). pointwise nat_eq c.items d.items) es b v)
      by_items a b [] v e = ap (λ (n : List ℕ). declaration_of n (meaning_seen v) ∷ []) e
      by_items a b (x ∷ es) v e =
          ap (λ (n : List ℕ). seen (cond (pointwise nat_eq n x.0.items) ((x.0, v) ∷ es) (x ∷ insert_entry (λ (c d : Bytes ℕ). pointwise nat_eq c.items d.items) es a v))) e
          ∙ either (pointwise nat_eq b.items x.0.items) x v es (insert_entry (λ (c d : Bytes ℕ). pointwise nat_eq c.items d.items) es a v) (insert_entry (λ (c d : Bytes ℕ). pointwise nat_eq c.items d.items) es b v) (by_items a b es v e)
