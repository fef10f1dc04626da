-- entries in a row: what the search for a place finds
use Rattle.std.proofs.Common.{◌≡◌, ℕ, ◌<◌, ◌≤◌, min, List, [], ◌∷◌, length, get_or, ℤ, Some, None, Option, MatchOption, sym, ap, ◌∙◌, arith, ◌≢◌}
use Rattle.std.proofs.lemmas.List.{get_or_default, get_or_read}
use Rattle.source.specs.declared.entry.Entry.{Entry}
use Rattle.source.specs.Tallies.{FirstAt, NoneAt, entry}

module _ {P : Type 0} (xs : List (Entry P)) (n : ℕ) (p : P) where
  -- entry i is at p, or is not, however it is read
  abbrev pub Here : ℕ → Type 0
  Here i = (e : Entry P) → i < length xs → (get_or xs i e).place ≡ p

  abbrev pub Elsewhere : ℕ → Type 0
  Elsewhere i = (e : Entry P) → i < length xs → (get_or xs i e).place ≢ p

  none_before : (m : ℕ) → ((k : ℕ) → 0 ≤ k → k < m → Elsewhere k) → NoneAt xs m p
  none_before m none k e x l q at = none k (omega arith) x e l (ap (λ z. z.place) (sym q) ∙ at)

  -- the first of n at p, where the search went through the m of them that there are
  pub searched : (m : ℕ) → m ≡ min n (length xs) → (r : Option ℕ)
      → MatchOption r ((k : ℕ) → 0 ≤ k → k < m → Elsewhere k) (λ i. (0 ≤ i) × (i < m) × Here i × ((k : ℕ) → 0 ≤ k → k < i → Elsewhere k))
      → elim r as (λ x. Type 0) [ None ↦ NoneAt xs n p | Some i ↦ (s : ℤ) × FirstAt xs n p i s ]
  searched m is None none = λ k e x l. none_before m none k e (omega arith) l
  searched m is (Some i) found =
      let l : i < length xs = omega (arith, found.1) in
      let d = first xs l in
      let e = get_or xs i d in
      let read : e ≡ get_or xs i e = get_or_default xs i d e l in (
        e.sum,
        record {
          used = omega (arith, found.1);
          there = l;
          here = sym (ap (λ z. entry z e.sum) (found.2 d l)) ∙ get_or_read xs i e l read (entry p e.sum);
          before = none_before i found.3;
        },
      )
    where
      first : (ys : List (Entry P)) → i < length ys → Entry P
      first [] h = absurd (omega arith)
      first (y ∷ ys) h = y
