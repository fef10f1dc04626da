use Rattle.std.proofs.Common.{◌≡◌, ℕ, zero, suc, ◌+◌, ◌*◌, ◌/◌, ◌<◌, false, List, length, get_or, drop, ℤ, pos, ◌<ℤ◌, ap, ◌∙◌, arith}
use lib.Signed.{le_z}
use Rattle.std.proofs.lemmas.Int.{ints}
use Rattle.std.proofs.lemmas.List.{get_or-drop, get_or-take}
use Rattle.std.specs.Simd.{first_chunks}
use Rattle.span.specs.Intervals.{Interval}
use Rattle.span.specs.Spans.{ends}
use Rattle.system.proofs.Ranges.{ends_ordered}
use Rattle.enclosure.specs.Boxed.{box}
use Rattle.enclosure.proofs.Asked.{each_none, each_more, each_first}
use Rattle.enclosure.proofs.Rows.{holds_none, holds_more}
use Rattle.enclosure.proofs.boxes.ordered_box.Goals as goal

same_ends : (a b l h : ℤ) → a ≡ l → b ≡ h → ◌≡◌ {A = Interval} (record { low = a; high = b }) (record { low = l; high = h })
same_ends a b l h e f = rw (e, f)

above_as : (a b l h : ℤ) → a ≡ l → b ≡ h → b <ℤ a → h <ℤ l
above_as a b l h e f g = rw (← e, ← f) g

-- number i of chunk k of two
in_chunk : (n k i : ℕ) (xs : List ℤ) (d : List ℤ) → k < n → i < 2 → get_or (get_or (first_chunks 2 n xs) k d) i (pos 0) ≡ get_or xs (2 * k + i) (pos 0)
in_chunk zero k i xs d h l = elim h [ ]
in_chunk (suc n) zero i xs d h l =
    let e : i ≡ 2 * 0 + i = omega arith in
    get_or-take 2 xs i (pos 0) l ∙ ap (λ j. get_or xs j (pos 0)) e
in_chunk (suc n) (suc k) i xs d h l =
    let e : 2 + (2 * k + i) ≡ 2 * suc k + i = omega arith in
    in_chunk n k i (drop 2 xs) d (omega arith) l ∙ get_or-drop 2 xs (2 * k + i) (pos 0) ∙ ap (λ j. get_or xs j (pos 0)) e

pub loop-row-init : goal.loop-row-init
loop-row-init c = (each_none _, holds_none c.default-rows.result (box c.args.numbers.now) c.default-rows.ensures)

pub returns-in_default : goal.returns-in_default
returns-in_default c =
    let xs = c.args.numbers.now in
    let row : ℕ = c.loop-row.row in
    let half : length xs / 2 ≡ c.args.n = omega (arith, c.requires.enough) in
    let below : row < c.args.n = omega (arith, c.loop-row-test.true, c.as_chunks.ensures.front_len) in
    let b = box xs row in
    let chunk = λ (d : List ℤ) (i : ℕ) (l : i < 2). ap (λ (ys : List (List ℤ)). get_or (get_or ys row d) i (pos 0)) c.as_chunks.ensures.front ∙ in_chunk (length xs / 2) row i xs d (omega arith) l in
    let zero_is : 2 * row + 0 ≡ 2 * row = omega arith in
    let low : (d : List ℤ) → get_or (get_or c.as_chunks.result.0.now row d) 0 (pos 0) ≡ b.low = λ d. chunk d 0 (omega arith) ∙ ap (λ j. get_or xs j (pos 0)) zero_is in
    let high : (d : List ℤ) → get_or (get_or c.as_chunks.result.0.now row d) 1 (pos 0) ≡ b.high = λ d. chunk d 1 (omega arith) in
    let above : b.high <ℤ b.low = above_as _ _ _ _ (low _) (high _) c.in_default.ensures in
    let no : le_z b.low b.high ≡ false = grind (arith, ints) in
    each_first c.args.n row _ below c.loop-row.invariant.0 no

pub loop-row-preserved : goal.loop-row-preserved
loop-row-preserved c =
    let xs = c.args.numbers.now in
    let row : ℕ = c.loop-row.row in
    let half : length xs / 2 ≡ c.args.n = omega (arith, c.requires.enough) in
    let below : row < c.args.n = omega (arith, c.loop-row-test.true, c.as_chunks.ensures.front_len) in
    let b = box xs row in
    let chunk = λ (d : List ℤ) (i : ℕ) (l : i < 2). ap (λ (ys : List (List ℤ)). get_or (get_or ys row d) i (pos 0)) c.as_chunks.ensures.front ∙ in_chunk (length xs / 2) row i xs d (omega arith) l in
    let zero_is : 2 * row + 0 ≡ 2 * row = omega arith in
    let low : (d : List ℤ) → get_or (get_or c.as_chunks.result.0.now row d) 0 (pos 0) ≡ b.low = λ d. chunk d 0 (omega arith) ∙ ap (λ j. get_or xs j (pos 0)) zero_is in
    let high : (d : List ℤ) → get_or (get_or c.as_chunks.result.0.now row d) 1 (pos 0) ≡ b.high = λ d. chunk d 1 (omega arith) in
    let made : ends c.in-Some.span ≡ record { low = b.low; high = b.high } = c.in-Some.ensures ∙ same_ends _ _ _ _ (low _) (high _) in
    let few : row < 12 = omega (arith, c.requires.few) in
    (each_more row _ c.loop-row.invariant.0 (ends_ordered c.in-Some.span b.low b.high made), holds_more row c.loop-row.rows c.in-Some.span (box xs) c.loop-row.invariant.1 few made)
