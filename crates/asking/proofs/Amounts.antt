-- lists of amounts, word by word
use Rattle.std.proofs.Common.{◌≡◌, ℕ, ◌+◌, ◌-◌, ◌<◌, ◌≤◌, List, [], ◌∷◌, ◌++◌, length, take, drop, ℤ, Some, None, Option, MatchOption, Ok, Err, vec_items, codes, Result, Vec, sym, refl, ap, ◌∙◌, subst, inl, inr, append_assoc, append-nil, add-one, arith, length-drop, drop-cons, Bor}
use Rattle.std.proofs.lemmas.List.{drop_all, drop-map, take_all, take-map}
use Rattle.std.proofs.lemmas.Bool.{cases_order}
use Rattle.std.specs.List.{AllWithin, HoldsAt}
use Rattle.std.specs.Str.Parse.{signed_digits_value}
use Rattle.std.specs.declared.alloc.Global.{Global}
use Rattle.asking.specs.declared.asked.Asked.{Asked}
use Rattle.asking.specs.declared.figure.Form.TheVariants as form
use Rattle.asking.specs.declared.mistake.Mistake.{Mistake}
use Rattle.asking.specs.declared.mistake.Mistake.TheVariants.{NoStroke}
use Rattle.asking.specs.declared.mistake.Unread.{Unread}
use Rattle.asking.specs.declared.mistake.Unread.TheVariants.{Mistaken, OutOfMemory}
use Rattle.asking.specs.Figures.{Amount}
use Rattle.asking.specs.Lines.{Amounts, FirstStroke, Got, Heard, Parted, Stroke, at, texts}
use Rattle.asking.proofs.Words.{amount, as_many, at_place, no_amount, passed}

-- once the words from i on are asked, all are
pub record Sofar (words : List (List ℕ)) (items : List ℤ) (i : ℕ) : Type 0 where
  pub rest : (r : Result (Vec ℤ Global) Mistake) → Amounts (drop i words) r (λ ns. Got vec_items (items ++ ns) r) → Amounts words r (λ ns. Got vec_items ns r)

pub nothing_yet : (words : List (List ℕ)) → Sofar words [] 0
nothing_yet words = record { rest = λ r h. h }

module _ (words : List (List ℕ)) {items : List ℤ} {i : ℕ} (old : Sofar words items i) where
  pub one_more : {word : List ℕ} {more : List ℤ} (n : ℤ) → i < length words → at words i ≡ word → Amount word (Ok n) (λ m. ◌≡◌ {A = Result ℤ Mistake} (Ok n) (Ok m)) → more ≡ items ++ (n ∷ []) → Sofar words more (i + 1)
  one_more {word} {more} n h same w is = record {
    rest = λ r later. old.rest r (subst (λ ws. Amounts ws r (λ ns. Got vec_items (items ++ ns) r)) (sym (drop-cons words i [] h))
        (amount same n w (simp append_assoc at (subst (λ l. Amounts (drop l words) r (λ ns. Got vec_items ((items ++ (n ∷ [])) ++ ns) r)) (add-one i) (subst (λ l. Amounts (drop (i + 1) words) r (λ ns. Got vec_items (l ++ ns) r)) is later)))));
  }

  pub bad_here : {word : List ℕ} (e : Mistake) → i < length words → at words i ≡ word → Amount {T = ℤ} word (Err e) (λ m. Err e ≡ Ok m) → Amounts {T = Vec ℤ Global} words (Err e) (λ ns. Got {T = Vec ℤ Global} vec_items ns (Err e))
  bad_here {word} e h same w = old.rest (Err e) (subst (λ ws. Amounts {T = Vec ℤ Global} ws (Err e) (λ ns. Got {T = Vec ℤ Global} vec_items (items ++ ns) (Err e))) (sym (drop-cons words i [] h)) (no_amount same e w refl))

  pub all_read : (v : Vec ℤ Global) → length words ≤ i → items ≡ vec_items v → Amounts words (Ok v) (λ ns. Got vec_items ns (Ok v))
  all_read v h is = old.rest (Ok v) (subst (λ ws. Amounts ws (Ok v) (λ ns. Got vec_items (items ++ ns) (Ok v))) (sym (drop_all i words h)) (sym (append-nil items ∙ is)))

-- what was read of a list, said of another result
read_on : {T : Type 0} (P : List ℤ → Type 0) (f : List ℤ → List ℤ) (words : List (List ℕ)) (v : Vec ℤ Global) (r : Result T Mistake) → ((ns : List ℤ) → vec_items v ≡ f ns → P ns) → Amounts words (Ok v) (λ ns. Got vec_items (f ns) (Ok v)) → Amounts words r P
read_on P f [] v r fits h = fits [] h
read_on P f (w ∷ ws) v r fits h = record {
  read = λ is. read_on (λ ns. P (signed_digits_value 10 w ∷ ns)) (λ ns. f (signed_digits_value 10 w ∷ ns)) ws v r (λ ns e. fits (signed_digits_value 10 w ∷ ns) e) (h.read is);
  told = λ no. absurd (h.told no);
}

pub told_on : (T : Type 0) (P : List ℤ → Type 0) (words : List (List ℕ)) (e : Mistake) → Amounts {T = Vec ℤ Global} words (Err e) (λ _. ⊥) → Amounts {T = T} words (Err e) P
told_on T P [] e h = absurd h
told_on T P (w ∷ ws) e h = record {
  read = λ n. told_on T (λ ns. P (signed_digits_value 10 w ∷ ns)) ws e (h.read n);
  told = λ no. passed (Vec ℤ Global) T form.Amount w e (h.told no);
}

module _ (words : List (List ℕ)) (q : Result (Vec ℤ Global) Mistake) (h : Amounts words q (λ ns. Got vec_items ns q)) where
  pub read_of : {T : Type 0} (P : List ℤ → Type 0) (v : Vec ℤ Global) (r : Result T Mistake) → q ≡ Ok v → P (vec_items v) → Amounts words r P
  read_of P v r is p = read_on P (λ ns. ns) words v r (λ ns e. subst P e p) (subst (λ q. Amounts words q (λ ns. Got vec_items ns q)) is h)

  pub told_of : (T : Type 0) (P : List ℤ → Type 0) (e : Mistake) → q ≡ Err e → Amounts {T = T} words (Err e) P
  told_of T P e is = told_on T P words e (subst (λ q. Amounts words q (λ ns. Got vec_items ns q)) is h)

-- what was read of a list of amounts
abbrev pub ReadAs : List (List ℕ) → Result (Vec ℤ Global) Mistake → Type 0
ReadAs words q = Amounts words q (λ ns. Got vec_items ns q)

-- where a list is not read, nor is what it stands in
pub unheard : (R : Result Asked Mistake → Type 0) (words : List (List ℕ)) (u : Unread) → ((e : Mistake) → Amounts {T = Vec ℤ Global} words (Err e) (λ ns. ⊥) → R (Err e)) → Heard {T = Vec ℤ Global} (Err u) (ReadAs words) → Heard (Err u) R
unheard R words (Mistaken m) f h = f m h
unheard R words (OutOfMemory e) f h = h

-- a word borrowed at a place
no_word : Bor (List ℕ)
no_word = record { ref_ptr = (0, 0); now = [] }

-- what was found among the words, said of their texts
pub stroke_found : (words : List (Bor (List ℕ))) (found : Option ℕ) → MatchOption found (AllWithin (λ w. w.now ≡ codes "/" → ⊥) words 0 (length words)) (λ i. (i < length words) × HoldsAt (λ w. w.now ≡ codes "/") words i × AllWithin (λ w. w.now ≡ codes "/" → ⊥) words 0 i) → Stroke (texts words) found
stroke_found words None h = λ s l e. let k : s < length words = omega (arith, as_many words) in h s no_word (omega arith) k (sym (at_place words s no_word k) ∙ e)
stroke_found words (Some i) h = record {
  within = omega (arith, as_many words, h.0);
  here = at_place words i no_word h.0 ∙ h.1 no_word;
  before = λ k l e. h.2 k no_word (omega arith) l (sym (at_place words k no_word (omega (arith, h.0))) ∙ e);
}

-- the first stroke is one only
pub parted : {r : Result Asked Mistake} {P : List (List ℕ) → List (List ℕ) → Type 0} (words : List (List ℕ)) (s : ℕ) → FirstStroke words s → P (take s words) (drop (s + 1) words) → Parted words r P
parted {r} {P} words s first-one p = record {
  parted = λ t g it first. subst (λ n. P (take n words) (drop (n + 1) words)) (same t it first) p;
  unparted = λ none. absurd (none s first-one.within first-one.here);
}
  where
    same : (t : ℕ) → at words t ≡ codes "/" → ((k : ℕ) → k < t → at words k ≡ codes "/" → ⊥) → s ≡ t
    same t it first = elim (cases_order s t) [ inl e ↦ e | inr o ↦ elim o [ inl l ↦ absurd (first s l first-one.here) | inr g ↦ absurd (first-one.before t g it) ] ]

pub unparted : {r : Result Asked Mistake} {P : List (List ℕ) → List (List ℕ) → Type 0} (words : List (List ℕ)) → ((k : ℕ) → k < length words → at words k ≡ codes "/" → ⊥) → r ≡ Err NoStroke → Parted words r P
unparted words none e = record { parted = λ s h is first. absurd (none s h is); unparted = λ _. e }

-- the parts of the words that the code lends
pub front : (words : List (Bor (List ℕ))) (s : ℕ) → texts (take s words) ≡ take s (texts words)
front words s = sym (take-map (λ w. w.now) s words)

pub back : (words : List (Bor (List ℕ))) (n : ℕ) → texts (take (length words - n) (drop n words)) ≡ drop n (texts words)
back words n = ap texts (take_all (length words - n) (drop n words) (simp length-drop (omega arith))) ∙ sym (drop-map (λ w. w.now) n words)
