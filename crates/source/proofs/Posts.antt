-- a post into a source that keeps the places of one kind in a tally: the first no, and how the tally is kept
use Rattle.std.proofs.Common.{◌≡◌, ℕ, ◌≤◌, true, false, ◌||◌, ltb, leb, List, length, ℤ, ◌+ℤ◌, nat_abs, Some, None, Ok, Err, Option, Result, ap}
use Rattle.std.proofs.lemmas.Bool.{le-leb, lt-leb}
use Rattle.span.specs.Questions.{first_no}
use Rattle.source.specs.declared.entry.Entry.{Entry}
use Rattle.source.specs.declared.entry.Refusal.{Refusal}
use Rattle.source.specs.declared.entry.Refusal.TheVariants.{NoRoom, TooLarge}
use Rattle.source.specs.declared.fault.Fault.{Fault}
use Rattle.source.specs.declared.fault.Fault.TheVariants.{Full, SumTooLarge}
use Rattle.source.specs.declared.place.Place.{Place}
use Rattle.source.specs.Lists.{Kept, listed, places_of, sum_of}
use Rattle.source.specs.Meaning.{Kind, Meaning, count, in_range, kind_of, limit, post_questions}
use Rattle.source.specs.Tallies.{Added, NoneAt, Slot}
use Rattle.source.proofs.Sums.{added_kept, no_room, slot_room, slot_sum}
use Rattle.span.proofs.Verdicts.{no_after, no_here, no_none}

-- the no that a tally's answer stands for
abbrev pub no_of : Place → Result (Unit {0}) Refusal → Option Fault
no_of p (Ok x) = None
no_of p (Err NoRoom) = Some (Full p)
no_of p (Err TooLarge) = Some (SumTooLarge p)

-- M keeps the places of kind k in the first n entries of xs
pub record Keeps {P : Type 0} (f : P → Place) (k : Kind) (M : Meaning) (n : ℕ) (xs : List (Entry P)) : Type 0 where
  pub kind : (p : P) → kind_of (f p) ≡ k
  pub held : (p : P) → M.held (f p) ≡ listed (places_of f n xs) (f p)
  pub sums : (p : P) → M.coefficient (f p) ≡ sum_of f n xs (f p)
  pub counts : count M.held k ≡ count (listed (places_of f n xs)) k
  pub room : M.capacity k ≡ length xs

module _ {P : Type 0} (f : P → Place) (alike : (a b : P) → f a ≡ f b → a ≡ b) (k : Kind) (M : Meaning) (xs : List (Entry P)) (n : ℕ) (keeps : Keeps f k M n xs) (kept : Kept k f n xs) (p : P) (inside : in_range (f p) ≡ true) (a : ℤ) where
  has_room : (i : ℕ) (s : ℤ) → Slot xs n p i s → (M.held (f p) || ltb (count M.held (kind_of (f p))) (M.capacity (kind_of (f p)))) ≡ true
  has_room i s slot =
      rw (keeps.kind p, keeps.held p, keeps.counts, keeps.room) (slot_room f alike k keeps.kind xs n p i s kept slot)

  is_full : NoneAt xs n p → length xs ≤ n → (M.held (f p) || ltb (count M.held (kind_of (f p))) (M.capacity (kind_of (f p)))) ≡ false
  is_full none full =
      rw (keeps.kind p, keeps.held p, keeps.counts, keeps.room) (no_room f alike k keeps.kind xs n p kept none full)

  sum_is : (i : ℕ) (s : ℤ) → Slot xs n p i s → M.coefficient (f p) +ℤ a ≡ s +ℤ a
  sum_is i s slot = rw (keeps.sums p) (ap (λ z. z +ℤ a) (slot_sum f alike xs n p i s slot))

  module _ (zs : List (Entry P)) (l : ℕ) where
    pub verdict : (r : Result (Unit {0}) Refusal) → Added xs n p a r zs l → first_no (post_questions M (f p) a) ≡ no_of (f p) r
    verdict (Ok x) h =
        let small : leb (nat_abs (M.coefficient (f p) +ℤ a)) limit ≡ true = rw (sum_is h.0 h.1.0 h.1.1) (le-leb (nat_abs (h.1.0 +ℤ a)) limit h.1.2) in
        no_after _ _ _ _ inside (no_after _ _ _ _ (has_room h.0 h.1.0 h.1.1) (no_after _ _ _ _ small no_none))
    verdict (Err NoRoom) h = no_after _ _ _ _ inside (no_here _ _ _ (is_full h.0.0 h.0.1))
    verdict (Err TooLarge) h =
        let large : leb (nat_abs (M.coefficient (f p) +ℤ a)) limit ≡ false = rw (sum_is h.0.0 h.0.1 h.0.2) (lt-leb (nat_abs (h.0.1 +ℤ a)) limit h.0.3) in
        no_after _ _ _ _ inside (no_after _ _ _ _ (has_room h.0.0 h.0.1 h.0.2) (no_here _ _ _ large))

    pub still_kept : (r : Result (Unit {0}) Refusal) → Added xs n p a r zs l → Kept k f l zs
    still_kept (Ok x) h =
        rw (h.2, h.1.3) (added_kept f alike k keeps.kind xs n p h.0 h.1.0 (h.1.0 +ℤ a) inside kept h.1.1)
    still_kept (Err r) h = rw (h.1, h.2) kept
