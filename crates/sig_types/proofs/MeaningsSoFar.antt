-- What names mean as more of them are declared.
use Rattle.std.proofs.Common.{◌≡◌, ℕ, ◌+◌, ◌<◌, Bool, true, false, cond, not, ◌||◌, List, [], ◌∷◌, ◌++◌, length, map, take, get_or, Option, Some, None, is_none, is_some, refl, sym, ap, ◌∙◌, append_assoc, true≢false, arith}
use mathlib.Core.Path.{fun_ext}
use lib.Pointwise.{bytes_decides}
use Rattle.std.specs.List.{list_any}
use Rattle.std.proofs.lemmas.Cmp.{nat_list_eq_equiv}
use Rattle.std.proofs.lemmas.List.{length-map, length-take}
use Rattle.sig_base.proofs.Lists.{seen_more}
use Rattle.model_core.specs.declared.static_kind.StaticKind.TheVariants as rules
use Rattle.model_core.specs.Text.Lexing.{same_bytes}
use Rattle.model_core.specs.Static.FaultOrder.{StaticFault, earliest_fault, fault_where}
use Rattle.model_core.specs.Static.Meanings.{Meaning, Declaration, declarations_from, declared_name, meaning_of}
use Rattle.model_core.specs.Static.PartFaults.{repeated_names}
use Rattle.sig_types.specs.Inner.Redeclared.{redeclared}
use Rattle.sig_types.specs.Seen.{declaration_of}
use Rattle.static_laws.proofs.Checks.{earliest_in_turn}
use Rattle.std.proofs.lemmas.List.{append-nil}

abbrev or_else : Option Meaning → Option Meaning → Option Meaning
or_else (Some w) o = Some w
or_else None o = o

one_more : (b : Bool) (w : Meaning) (r q o : Option Meaning) → r ≡ or_else q o → cond b (Some w) r ≡ or_else (cond b (Some w) q) o
one_more true w r q o e = refl
one_more false w r q o e = e

meaning_of-append : (ds es : List Declaration) (n : List ℕ) → meaning_of (ds ++ es) n ≡ or_else (meaning_of ds n) (meaning_of es n)
meaning_of-append [] es n = refl
meaning_of-append (d ∷ ds) es n = one_more (same_bytes d.name.name n) d.meaning (meaning_of (ds ++ es) n) (meaning_of ds n) (meaning_of es n) (meaning_of-append ds es n)

-- lists that mean the same still mean the same with such lists after them
pub meaning_of-same : (ds es fs gs : List Declaration) → meaning_of ds ≡ meaning_of es → meaning_of fs ≡ meaning_of gs → meaning_of (ds ++ fs) ≡ meaning_of (es ++ gs)
meaning_of-same ds es fs gs e f =
    fun_ext (λ n. meaning_of-append ds fs n ∙ ap (λ (m : List ℕ → Option Meaning). or_else (m n) (meaning_of fs n)) e ∙ ap (λ (m : List ℕ → Option Meaning). or_else (meaning_of es n) (m n)) f ∙ sym (meaning_of-append es gs n))

absorbed : (o p : Option Meaning) → is_none o ≡ false → or_else o p ≡ o
absorbed (Some w) p h = refl
absorbed None p h = absurd (true≢false h)

kept_none : (o : Option Meaning) → or_else o None ≡ o
kept_none (Some w) = refl
kept_none None = refl

again : (ds : List Declaration) (name n : List ℕ) (w : Meaning) (b : Bool) → same_bytes name n ≡ b → is_none (meaning_of ds name) ≡ false → or_else (meaning_of ds n) (cond b (Some w) None) ≡ meaning_of ds n
again ds name n w true is h = absorbed (meaning_of ds n) (Some w) (ap (λ m. is_none (meaning_of ds m)) (sym ((bytes_decides name n).0 is)) ∙ h)
again ds name n w false is h = kept_none (meaning_of ds n)

-- a name that is declared again means what it meant
meaning_of-again : (ds : List Declaration) (name : List ℕ) (w : Meaning) → is_none (meaning_of ds name) ≡ false → meaning_of ds ≡ meaning_of (ds ++ declaration_of name w ∷ [])
meaning_of-again ds name w h = fun_ext (λ n. sym (meaning_of-append ds (declaration_of name w ∷ []) n ∙ again ds name n w (same_bytes name n) refl h))

-- what a table means that takes up a name only where it is new
meaning_of-added : (added : Bool) (old new : List Declaration) (name : List ℕ) (w : Meaning) → added ≡ is_none (meaning_of old name) → new ≡ cond added (old ++ declaration_of name w ∷ []) old → meaning_of new ≡ meaning_of (old ++ declaration_of name w ∷ [])
meaning_of-added true old new name w is e = ap meaning_of e
meaning_of-added false old new name w is e = ap meaning_of e ∙ meaning_of-again old name w (sym is)

redeclared-push : (earlier ds : List Declaration) (d : Declaration)
    → redeclared earlier (ds ++ d ∷ []) ≡ redeclared earlier ds ++ fault_where (is_some (meaning_of (earlier ++ ds) d.name.name)) rules.DuplicateName d.name.at
redeclared-push earlier [] d =
    append-nil (fault_where (is_some (meaning_of earlier d.name.name)) rules.DuplicateName d.name.at)
    ∙ ap (λ es. fault_where (is_some (meaning_of es d.name.name)) rules.DuplicateName d.name.at) (sym (append-nil earlier))
redeclared-push earlier (e ∷ ds) d =
    let first = fault_where (is_some (meaning_of earlier e.name.name)) rules.DuplicateName e.name.at in
    let rest = redeclared (earlier ++ e ∷ []) ds in
    ap (λ fs. first ++ fs) (redeclared-push (earlier ++ e ∷ []) ds d)
    ∙ sym (append_assoc first rest (fault_where (is_some (meaning_of (earlier ++ e ∷ [] ++ ds) d.name.name)) rules.DuplicateName d.name.at))
    ∙ ap (λ es. first ++ rest ++ fault_where (is_some (meaning_of es d.name.name)) rules.DuplicateName d.name.at) (append_assoc earlier (e ∷ []) ds)

not_none : (A : Type 0) (o : Option A) (b : Bool) → b ≡ is_none o → not b ≡ is_some o
not_none A None b e = ap not e
not_none A (Some x) b e = ap not e

module _ {W : Type 0} (f : ℕ → W → Declaration) where
  declarations_from-push : (k : ℕ) (xs : List W) (x : W) → declarations_from f k (xs ++ x ∷ []) ≡ declarations_from f k xs ++ f (k + length xs) x ∷ []
  declarations_from-push k [] x = let e : k ≡ k + 0 = omega arith in ap (λ (j : ℕ). f j x ∷ []) e
  declarations_from-push k (y ∷ xs) x = ap (λ ds. f k y ∷ ds) (declarations_from-push (k + 1) xs x ∙ ap (λ j. declarations_from f (k + 1) xs ++ f j x ∷ []) (omega arith))

  declarations_turn : {X : Type 0} (w : X → W) (raws : List X) (i : ℕ) (x : X) → i < length raws → x ≡ get_or raws i x
      → declarations_from f 0 (map w (take (i + 1) raws)) ≡ declarations_from f 0 (map w (take i raws)) ++ f i (w x) ∷ []
  declarations_turn w raws i x lt is =
      let seen = map w (take i raws) in
      let long : length seen ≡ i = simp (length-map, length-take) (omega arith) in
      ap (declarations_from f 0) (seen_more w raws i x lt is) ∙ declarations_from-push 0 seen (w x) ∙ ap (λ j. declarations_from f 0 seen ++ f j (w x) ∷ []) (omega (arith, long))

  module _ {X : Type 0} (w : X → W) (start now next : List Declaration) (t0 t1 t2 : Option StaticFault) (raws : List X) (i : ℕ) (x : X) (added : Bool) (name : List ℕ) (meaning : Meaning)
      (lt : i < length raws) (is : x ≡ get_or raws i x) (named : (f i (w x)).name.name ≡ name) (meant : (f i (w x)).meaning ≡ meaning)
      (means : meaning_of now ≡ meaning_of (start ++ declarations_from f 0 (map w (take i raws)))) (new : added ≡ is_none (meaning_of now name)) where
    -- a turn of a loop that declares
    pub means_turn : next ≡ cond added (now ++ declaration_of name meaning ∷ []) now → meaning_of next ≡ meaning_of (start ++ declarations_from f 0 (map w (take (i + 1) raws)))
    means_turn put =
        let ds = declarations_from f 0 (map w (take i raws)) in
        let one : meaning_of (declaration_of name meaning ∷ []) ≡ meaning_of (f i (w x) ∷ []) = rw (← named, ← meant) refl in
        meaning_of-added added now next name meaning new put ∙ meaning_of-same now (start ++ ds) (declaration_of name meaning ∷ []) (f i (w x) ∷ []) means one
        ∙ ap meaning_of (append_assoc start ds (f i (w x) ∷ []) ∙ ap (λ es. start ++ es) (sym (declarations_turn w raws i x lt is)))

    pub report_turn : (at : ℕ) → (f i (w x)).name.at ≡ at → t1 ≡ earliest_fault t0 (redeclared start (declarations_from f 0 (map w (take i raws)))) → t2 ≡ earliest_fault t1 (fault_where (not added) rules.DuplicateName at)
        → t2 ≡ earliest_fault t0 (redeclared start (declarations_from f 0 (map w (take (i + 1) raws))))
    report_turn at placed so_far later =
        let ds = declarations_from f 0 (map w (take i raws)) in
        let d = f i (w x) in
        let known : not added ≡ is_some (meaning_of (start ++ ds) d.name.name) = not_none Meaning (meaning_of now name) added new ∙ ap (λ (m : List ℕ → Option Meaning). is_some (m name)) means ∙ ap (λ n. is_some (meaning_of (start ++ ds) n)) (sym named) in
        rw (declarations_turn w raws i x lt is, redeclared-push start ds d)
        (earliest_in_turn t0 t1 t2 (redeclared start ds) (fault_where (is_some (meaning_of (start ++ ds) d.name.name)) rules.DuplicateName d.name.at) so_far
        (later ∙ ap (λ b. earliest_fault t1 (fault_where b rules.DuplicateName at)) known ∙ ap (λ j. earliest_fault t1 (fault_where (is_some (meaning_of (start ++ ds) d.name.name)) rules.DuplicateName j)) (sym placed)))

-- ---- declared again, and earlier in the list of names

known_or_new : (o : Option Meaning) (b c any : Bool) (w : Meaning) → b ≡ c → is_some o ≡ any → is_some (or_else o (cond b (Some w) None)) ≡ (c || any)
known_or_new (Some v) true true any w e h = refl
known_or_new (Some v) false false any w e h = h
known_or_new None true true any w e h = refl
known_or_new None false false any w e h = h
known_or_new o true false any w e h = absurd (true≢false e)
known_or_new o false true any w e h = absurd (true≢false (sym e))

-- these names are declared
abbrev Declares : List Declaration → List (List ℕ) → Type 0
Declares ds names = (n : List ℕ) → is_some (meaning_of ds n) ≡ list_any (same_bytes n) names

declares_more : (ds : List Declaration) (names : List (List ℕ)) (d : Declaration) → Declares ds names → Declares (ds ++ d ∷ []) (d.name.name ∷ names)
declares_more ds names d h n =
    ap is_some (meaning_of-append ds (d ∷ []) n)
    ∙ known_or_new (meaning_of ds n) (same_bytes d.name.name n) (same_bytes n d.name.name) (list_any (same_bytes n) names) d.meaning (nat_list_eq_equiv.symm d.name.name n) (h n)

repeated_after : (earlier : List Declaration) (names : List (List ℕ)) → Declares earlier names → (ds : List Declaration) → redeclared earlier ds ≡ repeated_names names (map declared_name ds)
repeated_after earlier names h [] = refl
repeated_after earlier names h (d ∷ ds) =
    ap (λ b. fault_where b rules.DuplicateName d.name.at ++ redeclared (earlier ++ d ∷ []) ds) (h d.name.name)
    ∙ ap (λ fs. fault_where (list_any (same_bytes d.name.name) names) rules.DuplicateName d.name.at ++ fs) (repeated_after (earlier ++ d ∷ []) (d.name.name ∷ names) (declares_more earlier names d h) ds)

pub redeclared-repeated : (ds : List Declaration) → redeclared [] ds ≡ repeated_names [] (map declared_name ds)
redeclared-repeated ds = repeated_after [] [] (λ n. refl) ds

pub redeclared-append : (earlier ds es : List Declaration) → redeclared earlier (ds ++ es) ≡ redeclared earlier ds ++ redeclared (earlier ++ ds) es
redeclared-append earlier [] es = ap (λ xs. redeclared xs es) (sym (append-nil earlier))
redeclared-append earlier (d ∷ ds) es =
    let first = fault_where (is_some (meaning_of earlier d.name.name)) rules.DuplicateName d.name.at in
    ap (λ fs. first ++ fs) (redeclared-append (earlier ++ d ∷ []) ds es)
    ∙ sym (append_assoc first (redeclared (earlier ++ d ∷ []) ds) (redeclared (earlier ++ d ∷ [] ++ ds) es))
    ∙ ap (λ xs. first ++ redeclared (earlier ++ d ∷ []) ds ++ redeclared xs es) (append_assoc earlier (d ∷ []) ds)

-- names that mean the same are declared again alike
pub redeclared-same : (xs ys ds : List Declaration) → meaning_of xs ≡ meaning_of ys → redeclared xs ds ≡ redeclared ys ds
redeclared-same xs ys [] e = refl
redeclared-same xs ys (d ∷ ds) e =
    ap (λ (m : List ℕ → Option Meaning). fault_where (is_some (m d.name.name)) rules.DuplicateName d.name.at ++ redeclared (xs ++ d ∷ []) ds) e
    ∙ ap (λ fs. fault_where (is_some (meaning_of ys d.name.name)) rules.DuplicateName d.name.at ++ fs) (redeclared-same (xs ++ d ∷ []) (ys ++ d ∷ []) ds (meaning_of-same xs ys (d ∷ []) (d ∷ []) e refl))
