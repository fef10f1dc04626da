use Rattle.std.proofs.Common.{◌≡◌, ℕ, ◌+◌, ◌-◌, ◌≤◌, List, length, get_or, ap, ◌∙◌, arith}
use Rattle.std.proofs.lemmas.Int.{ints}
use Rattle.sheet.specs.Bytes.{unsigned_at}
use Rattle.sheet.specs.Layout.{sheet_length}
use Rattle.sheet.proofs.Marks.{four_after, four_before, four_first, four_fourth, four_long, four_second, four_set, four_third, same_unsigned}
use Rattle.sheet.proofs.writing.put_head.Goals as goal

pub returns : goal.returns
returns g c =
    let n = c.args.layout.states in
    let k = c.args.layout.settings in
    let a = c.length-at.result - 8 in
    let m = c.args.narrowings in
    let xs = c.put_unsigned.new.bytes in
    let put = c.put_unsigned.ensures in
    let bs : List ℕ = four_set xs a n k m 0 in
    let at : a + 8 ≡ sheet_length n k = omega (arith, c.length-at.ensures.is) in
    let room : a + 8 ≤ length xs = omega (arith, put.long, c.requires.room) in
    record {
      long = four_long xs a n k m 0 ∙ put.long;
      scale = ap (unsigned_at bs) (omega arith) ∙ same_unsigned bs xs a (λ i p q. four_before xs a n k m 0 i q) ∙ put.here ∙ omega (arith, ints, c.units.ensures);
      states = ap (λ i. get_or bs i 0) (omega arith) ∙ four_first xs a n k m 0 room;
      settings = ap (λ i. get_or bs i 0) (omega arith) ∙ four_second xs a n k m 0 room;
      narrowings = ap (λ i. get_or bs i 0) (omega arith) ∙ four_third xs a n k m 0 room;
      zero = ap (λ i. get_or bs i 0) (omega arith) ∙ four_fourth xs a n k m 0 room;
      before = λ i l. four_before xs a n k m 0 i (omega arith) ∙ put.before i (omega arith);
      after = λ i l. four_after xs a n k m 0 i (omega arith) ∙ put.after i (omega arith);
    }
