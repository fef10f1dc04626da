-- words by place, and what was read of them
use Rattle.std.proofs.Common.{◌≡◌, ℕ, ◌+◌, ◌<◌, ◌≤◌, ◌≢◌, List, [], length, get_or, take, set, ℤ, pos, Some, None, Err, Option, sym, ap, ◌∙◌, subst, arith, length-set, length-take-le, get_or-set_other, get_or-take, get_or-set_same, w64, SFits, to_z, of_z, Bor, below_more, MatchOption}
use lib.ListN.{length-map}
use Rattle.std.proofs.lemmas.List.{get_or-map}
use Rattle.std.proofs.lemmas.Int.{to_z-of_z}
use Rattle.std.specs.Option.{ok_or}
use Rattle.script.specs.declared.call.Call.{Call}
use Rattle.script.specs.declared.kind.Kind.{Kind}
use Rattle.script.specs.declared.kind.Kind.TheVariants as kind
use Rattle.script.specs.declared.mistake.Mistake.{Mistake}
use Rattle.script.specs.declared.mistake.Mistake.TheVariants.{UnknownCall, WrongCount, NotANumber}
use Rattle.script.specs.Calls.{kind_of, numbers_of}
use Rattle.script.specs.Kinds.{name_of, takes}
use Rattle.script.specs.Reading.{FirstBad, IsNumber, Number, Numbers, Read, Written, texts}

pub few : (k : Kind) → takes k ≤ 4
few kind.Bring = omega arith
few kind.Span = omega arith
few kind.SpanAdd = omega arith
few kind.SpanSub = omega arith
few kind.SpanMul = omega arith
few kind.SpanBack = omega arith
few kind.Audit = omega arith

module _ (words : List (Bor (List ℕ))) where
  pub as_many : length (texts words) ≡ length words
  as_many = length-map words (λ w. w.now)

  at_place : (i : ℕ) (d : Bor (List ℕ)) → i < length words → get_or (texts words) i [] ≡ (get_or words i d).now
  at_place i d h = get_or-map (λ w. w.now) words i d [] h

  pub bad_here : (ns : List ℤ) (i : ℕ) (d : Bor (List ℕ)) → i < length words → Written (texts words) ns i → (IsNumber (get_or words i d).now → ⊥) → FirstBad (texts words) (get_or words i d).now
  bad_here ns i d h w n = record {
    place = i;
    within = rw as_many h;
    is = sym (at_place i d h);
    bad = n;
    before = λ k l. (w k l).0;
  }

  pub one_more : (ns : List ℤ) (i : ℕ) (d : Bor (List ℕ)) (n : ℤ) → length ns ≡ 4 → length words ≤ 4 → i < length words → SFits w64 n → Written (texts words) ns i → Number (get_or words i d).now (Some n) → (length (set ns i (to_z w64 (of_z w64 n))) ≡ 4) × Written (texts words) (set ns i (to_z w64 (of_z w64 n))) (i + 1)
  one_more ns i d n long few h f w new =
      (length-set ns i _ ∙ long, below_more _ _ (λ k l. let ne : k ≢ i = omega arith in ((w k l).0, get_or-set_other ns i k _ _ ne ∙ (w k l).1)) here)
    where
      here : Number (get_or (texts words) i []) (Some (get_or (set ns i (to_z w64 (of_z w64 n))) i (pos 0)))
      here = let lt : i < length ns = omega arith in subst (λ t. Number t (Some (get_or (set ns i (to_z w64 (of_z w64 n))) i (pos 0)))) (sym (at_place i d h)) (rw get_or-set_same (simp to_z-of_z new))

-- where a word is no number, the line is turned back with that word
pub no_number : (name : List ℕ) (words : List (List ℕ)) (k : Kind) (y : Mistake) → name ≡ name_of k → length words ≡ takes k → Numbers words (Err y) → Read name words (Err y)
no_number name words k (UnknownCall word) e h bad = absurd bad
no_number name words k (WrongCount kind given) e h bad = absurd bad
no_number name words k (NotANumber word) e h bad = ((k, e, h), bad)

-- as many numbers as the kind takes make a call
pub arranged : (name : List ℕ) (words : List (List ℕ)) (k : Kind) (given : ℕ) (ns ms : List ℤ) (o : Option Call) → name ≡ name_of k → given ≡ length words → length words ≡ takes k → length ns ≡ 4 → Written words ns (length words) → ms ≡ take given ns → MatchOption o (length ms ≡ takes k → ⊥) (λ call. (kind_of call ≡ k) × (numbers_of call ≡ ms)) → Read name words (ok_or o (WrongCount k given))
arranged name words k given ns ms None e g h long w front none =
    absurd (none (ap length front ∙ length-take-le given ns (omega (arith, few k)) ∙ g ∙ h))
arranged name words k given ns ms (Some call) e g h long w front made =
    let same : numbers_of call ≡ take given ns = made.1 ∙ front in
    let many : length words ≡ length (numbers_of call) = sym g ∙ sym (length-take-le given ns (omega (arith, few k))) ∙ sym (ap length same) in
    (e ∙ ap name_of (sym made.0), many, λ i l. ((w i l).0, ap (λ l. get_or l i (pos 0)) same ∙ get_or-take given ns i (pos 0) (omega arith) ∙ (w i l).1))
