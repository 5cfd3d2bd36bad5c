-- Lemmas on the bytes that a source has left.
use Rattle.std.proofs.Common.{◌≡◌, ℕ, ◌+◌, ◌-◌, ◌<◌, List, [], ◌++◌, length, take, drop, Option, Some, None, IfSome, sym, ap, subst, ◌∙◌, arith, length-drop, append-nil}
use Rattle.std.proofs.lemmas.List.{drop-drop, drop_all, take_all, take-append-le, take-append-drop}
use Rattle.std.proofs.Math.Seq.{take-add}
use Rattle.sig_base.specs.Source.{Takes, Shows, IsAtEnd}

-- n more bytes were taken
pub Takes-more : (a b c : Option (List ℕ)) (i n : ℕ) → Takes a b i → Takes b c n → Takes a c (i + n)
Takes-more None b c i n p q = tt
Takes-more (Some x) b c i n p q =
    let r = subst (λ o. Takes o c n) p.1 q in
    (omega (arith, r.0, p.0, length-drop i x), r.1 ∙ ap Some (drop-drop n i x))

-- a buffer with i bytes of what was left, and the next n after them
pub Shows-more : (a b : Option (List ℕ)) (i n : ℕ) (old new : List ℕ) → Takes a b i → Shows a i old → take i new ≡ take i old → Shows b n (drop i new) → Shows a (i + n) new
Shows-more None b i n old new p q e s = tt
Shows-more (Some x) b i n old new p q e s =
    let front : take i new ≡ take i x = e ∙ q in
    let rest : take n (drop i new) ≡ take n (drop i x) = subst (λ o. Shows o n (drop i new)) p.1 s in
    take-add i n new ∙ ap (λ l. l ++ take n (drop i new)) front ∙ ap (λ l. take i x ++ l) rest ∙ sym (take-add i n x)

-- a buffer with i bytes of what was left has all of it, where the source is then empty
pub all-at_end : (a b c : Option (List ℕ)) (i n : ℕ) (buffer text : List ℕ) → Takes a b i → Shows a i buffer → text ≡ take i buffer → IsAtEnd b → Takes b c n
    → IfSome a (λ bytes. (text ≡ bytes) × (c ≡ Some []))
all-at_end None b c i n buffer text p q e end r = tt
all-at_end (Some x) b c i n buffer text p q e end r =
    let none : drop i x ≡ [] = subst IsAtEnd p.1 end in
    let left = subst (λ o. Takes o c n) (p.1 ∙ ap Some none) r in
    (e ∙ q ∙ sym (append-nil (take i x)) ∙ ap (λ l. take i x ++ l) (sym none) ∙ take-append-drop i x, left.1 ∙ ap Some (drop_all n [] (omega arith)))

-- where one byte more than the limit was taken, there were more than the limit
pub past_limit : (a b : Option (List ℕ)) (n limit : ℕ) → n ≡ limit + 1 → Takes a b n → IfSome a (λ bytes. (limit < length bytes) × (b ≡ Some (drop (limit + 1) bytes)))
past_limit None b n limit e p = tt
past_limit (Some x) b n limit e p = (omega (arith, p.0), p.1 ∙ ap (λ k. Some (drop k x)) e)

-- a buffer into whose front n of the bytes left were copied shows them
pub copied-shows : (n taken : ℕ) (content copied rest left : List ℕ) → copied ≡ take n (take (length content - taken) (drop taken content)) → length copied ≡ n → drop taken content ≡ left → take n (copied ++ rest) ≡ take n left
copied-shows n taken content copied rest left e len view =
    take-append-le n copied rest (omega (arith, len)) ∙ take_all n copied (omega (arith, len)) ∙ e
    ∙ ap (take n) (take_all (length content - taken) (drop taken content) (omega (arith, length-drop taken content)) ∙ view)
