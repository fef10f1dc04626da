-- a list's meaning after a post, and what it tells
use Rattle.std.proofs.Common.{◌≡◌, ℕ, true, List, ℤ, ◌+ℤ◌, Some, None, Ok, Err, Option, Result, sym, refl, ap, w32, SFits, to_z, of_z}
use Rattle.std.proofs.lemmas.List.{length-set}
use Rattle.std.proofs.lemmas.Int.{to_z-of_z}
use Rattle.source.specs.declared.entry.Entry.{Entry}
use Rattle.source.specs.declared.entry.MatrixPlace.{MatrixPlace}
use Rattle.source.specs.declared.entry.PayoutPlace.{PayoutPlace}
use Rattle.source.specs.declared.entry.Refusal.{Refusal}
use Rattle.source.specs.declared.entry.Refusal.TheVariants.{NoRoom, TooLarge}
use Rattle.source.specs.declared.fault.Fault.{Fault}
use Rattle.source.specs.declared.place.Place.{Place}
use Rattle.source.specs.declared.place.Place.TheVariants.{Matrix, Payout}
use Rattle.source.specs.Lists.{answer_of, list_means, ListSound, of_matrix, of_payout}
use Rattle.source.specs.Meaning.{Kind, Posting, asked, count, in_range, matrix, payout, taken}
use Rattle.source.specs.Tallies.{Added, Told}
use Rattle.source.proofs.Meanings.{one_meaning}
use Rattle.source.proofs.Posts.{Keeps, still_kept, verdict}
use Rattle.source.proofs.Sums.{added_listed, added_sum, first_listed, first_sum_of, none_listed}

matrix_alike : (a b : MatrixPlace) → of_matrix a ≡ of_matrix b → a ≡ b
matrix_alike a b e =
    let part : a.part ≡ b.part = cc in
    let row : a.row ≡ b.row = cc in
    let column : a.column ≡ b.column = cc in
    λ i. record { part = part i; row = row i; column = column i }

payout_alike : (a b : PayoutPlace) → of_payout a ≡ of_payout b → a ≡ b
payout_alike a b e =
    let part : a.part ≡ b.part = cc in
    let row : a.row ≡ b.row = cc in
    λ i. record { part = part i; row = row i }

module _ (xs : List (Entry MatrixPlace)) (m : ℕ) (ys : List (Entry PayoutPlace)) (n : ℕ) where
  -- ---- asking
  matrix_told : (p : MatrixPlace) (r : Option ℤ) → Told xs m p r → r ≡ asked (list_means xs m ys n) (of_matrix p)
  matrix_told p (Some s) h =
      rw (first_listed of_matrix matrix_alike xs m p h.0 s h.1) (ap Some (sym (first_sum_of of_matrix matrix_alike xs m p h.0 s h.1)))
  matrix_told p None h = rw (none_listed of_matrix matrix_alike xs m p h) refl

  payout_told : (p : PayoutPlace) (r : Option ℤ) → Told ys n p r → r ≡ asked (list_means xs m ys n) (of_payout p)
  payout_told p (Some s) h =
      rw (first_listed of_payout payout_alike ys n p h.0 s h.1) (ap Some (sym (first_sum_of of_payout payout_alike ys n p h.0 s h.1)))
  payout_told p None h = rw (none_listed of_payout payout_alike ys n p h) refl

  -- the same at the place as the code has it
  pub matrix_ask : (place : Place) (p : MatrixPlace) (r : Option ℤ) → place ≡ of_matrix p → Told xs m p r → r ≡ asked (list_means xs m ys n) place
  matrix_ask place p r e h = rw e (matrix_told p r h)

  pub payout_ask : (place : Place) (p : PayoutPlace) (r : Option ℤ) → place ≡ of_payout p → Told ys n p r → r ≡ asked (list_means xs m ys n) place
  payout_ask place p r e h = rw e (payout_told p r h)

  -- ---- posting
  matrix_keeps : Keeps of_matrix matrix (list_means xs m ys n) m xs
  unfolding count
  matrix_keeps = record { kind = λ p. refl; held = λ p. refl; sums = λ p. refl; counts = refl; room = refl }

  payout_keeps : Keeps of_payout payout (list_means xs m ys n) n ys
  unfolding count
  payout_keeps = record { kind = λ p. refl; held = λ p. refl; sums = λ p. refl; counts = refl; room = refl }

  module _ (sound : ListSound xs m ys n) (a : ℤ) where
    module _ (p : MatrixPlace) (inside : in_range (of_matrix p) ≡ true) (zs : List (Entry MatrixPlace)) (l : ℕ) where
      matrix_sums : (h : Added xs m p a (Ok tt) zs l) (q : Place) → (list_means zs l ys n).coefficient q ≡ (taken (list_means xs m ys n) (of_matrix p) a).coefficient q
      matrix_sums h (Matrix v i j) =
          rw (h.2, h.1.3) (added_sum of_matrix matrix_alike xs m p h.0 h.1.0 a (Matrix v i j) h.1.1)
      matrix_sums h (Payout v i) = refl

      matrix_held : (h : Added xs m p a (Ok tt) zs l) (q : Place) → (list_means zs l ys n).held q ≡ (taken (list_means xs m ys n) (of_matrix p) a).held q
      matrix_held h (Matrix v i j) =
          rw (h.2, h.1.3) (added_listed of_matrix matrix_alike xs m p h.0 h.1.0 (h.1.0 +ℤ a) (Matrix v i j) h.1.1)
      matrix_held h (Payout v i) = refl

      matrix_room : (h : Added xs m p a (Ok tt) zs l) (k : Kind) → (list_means zs l ys n).capacity k ≡ (list_means xs m ys n).capacity k
      matrix_room h matrix = rw (h.1.3, length-set) refl
      matrix_room h payout = refl

      matrix_posting : (r : Result (Unit {0}) Refusal) → Added xs m p a r zs l → Posting (list_means xs m ys n) (of_matrix p) a (answer_of (of_matrix p) r) (list_means zs l ys n)
      matrix_posting (Ok x) h =
          (verdict of_matrix matrix_alike matrix (list_means xs m ys n) xs m matrix_keeps sound.0 p inside a zs l (Ok x) h, one_meaning (list_means zs l ys n) (taken (list_means xs m ys n) (of_matrix p) a) (matrix_sums h) (matrix_held h) (matrix_room h) (λ q. refl))
      matrix_posting (Err NoRoom) h =
          (verdict of_matrix matrix_alike matrix (list_means xs m ys n) xs m matrix_keeps sound.0 p inside a zs l (Err NoRoom) h, rw (h.1, h.2) refl)
      matrix_posting (Err TooLarge) h =
          (verdict of_matrix matrix_alike matrix (list_means xs m ys n) xs m matrix_keeps sound.0 p inside a zs l (Err TooLarge) h, rw (h.1, h.2) refl)

      pub matrix_added : (r : Result (Unit {0}) Refusal) → Added xs m p a r zs l → Posting (list_means xs m ys n) (of_matrix p) a (answer_of (of_matrix p) r) (list_means zs l ys n) × ListSound zs l ys n
      matrix_added r h =
          (matrix_posting r h, (still_kept of_matrix matrix_alike matrix (list_means xs m ys n) xs m matrix_keeps sound.0 p inside a zs l r h, sound.1))

    module _ (p : PayoutPlace) (inside : in_range (of_payout p) ≡ true) (zs : List (Entry PayoutPlace)) (l : ℕ) where
      payout_sums : (h : Added ys n p a (Ok tt) zs l) (q : Place) → (list_means xs m zs l).coefficient q ≡ (taken (list_means xs m ys n) (of_payout p) a).coefficient q
      payout_sums h (Matrix v i j) = refl
      payout_sums h (Payout v i) =
          rw (h.2, h.1.3) (added_sum of_payout payout_alike ys n p h.0 h.1.0 a (Payout v i) h.1.1)

      payout_held : (h : Added ys n p a (Ok tt) zs l) (q : Place) → (list_means xs m zs l).held q ≡ (taken (list_means xs m ys n) (of_payout p) a).held q
      payout_held h (Matrix v i j) = refl
      payout_held h (Payout v i) =
          rw (h.2, h.1.3) (added_listed of_payout payout_alike ys n p h.0 h.1.0 (h.1.0 +ℤ a) (Payout v i) h.1.1)

      payout_room : (h : Added ys n p a (Ok tt) zs l) (k : Kind) → (list_means xs m zs l).capacity k ≡ (list_means xs m ys n).capacity k
      payout_room h matrix = refl
      payout_room h payout = rw (h.1.3, length-set) refl

      payout_posting : (r : Result (Unit {0}) Refusal) → Added ys n p a r zs l → Posting (list_means xs m ys n) (of_payout p) a (answer_of (of_payout p) r) (list_means xs m zs l)
      payout_posting (Ok x) h =
          (verdict of_payout payout_alike payout (list_means xs m ys n) ys n payout_keeps sound.1 p inside a zs l (Ok x) h, one_meaning (list_means xs m zs l) (taken (list_means xs m ys n) (of_payout p) a) (payout_sums h) (payout_held h) (payout_room h) (λ q. refl))
      payout_posting (Err NoRoom) h =
          (verdict of_payout payout_alike payout (list_means xs m ys n) ys n payout_keeps sound.1 p inside a zs l (Err NoRoom) h, rw (h.1, h.2) refl)
      payout_posting (Err TooLarge) h =
          (verdict of_payout payout_alike payout (list_means xs m ys n) ys n payout_keeps sound.1 p inside a zs l (Err TooLarge) h, rw (h.1, h.2) refl)

      pub payout_added : (r : Result (Unit {0}) Refusal) → Added ys n p a r zs l → Posting (list_means xs m ys n) (of_payout p) a (answer_of (of_payout p) r) (list_means xs m zs l) × ListSound xs m zs l
      payout_added r h =
          (payout_posting r h, (sound.0, still_kept of_payout payout_alike payout (list_means xs m ys n) ys n payout_keeps sound.1 p inside a zs l r h))

  -- ---- as the code has it: the place by its pattern, the amount by its bits
  module _ (place : Place) (a : ℤ) (r : Result (Unit {0}) Refusal) (t : Result (Unit {0}) Fault) (inside : in_range place ≡ true) (fits : SFits w32 a) (sound : ListSound xs m ys n) (l : ℕ) where
    pub matrix_answer : (p : MatrixPlace) (zs : List (Entry MatrixPlace)) → place ≡ of_matrix p → t ≡ answer_of (of_matrix p) r → Added xs m p (to_z w32 (of_z w32 a)) r zs l → Posting (list_means xs m ys n) place a t (list_means zs l ys n) × ListSound zs l ys n
    matrix_answer p zs e is h =
        rw (e, is) (matrix_added sound a p (rw e at inside) zs l r (rw (to_z-of_z w32 a fits) at h))

    pub payout_answer : (p : PayoutPlace) (zs : List (Entry PayoutPlace)) → place ≡ of_payout p → t ≡ answer_of (of_payout p) r → Added ys n p (to_z w32 (of_z w32 a)) r zs l → Posting (list_means xs m ys n) place a t (list_means xs m zs l) × ListSound xs m zs l
    payout_answer p zs e is h =
        rw (e, is) (payout_added sound a p (rw e at inside) zs l r (rw (to_z-of_z w32 a fits) at h))
