-- a sheet that was accepted and is written again has the same bytes
use Rattle.std.proofs.Common.{◌≡◌, ℕ, suc, ◌+◌, ◌-◌, ◌*◌, ◌/◌, ◌%◌, ◌<◌, ◌≤◌, List, length, get_or, Some, Ok, Err, Result, sym, refl, ap, ◌∙◌, subst, inl, inr, arith}
use Rattle.std.proofs.lemmas.Bool.{cases_lt}
use Rattle.source.specs.Meaning.{Meaning}
use Rattle.law.specs.Calls.{Given}
use Rattle.law.specs.History.{Basis, holds, posted, range_of, settings_of, states_of}
use Rattle.docket.specs.declared.desk.Desk.{Desk}
use Rattle.sheet.specs.declared.fault.Fault.{Fault}
use Rattle.sheet.specs.declared.framed.Framed.{Framed}
use Rattle.sheet.specs.declared.rechecked.Rechecked.{Rechecked}
use Rattle.sheet.specs.Again.{Bytes, SameBytes, Writes, WritesAgain}
use Rattle.sheet.specs.Bytes.{number_at, unsigned_at}
use Rattle.sheet.specs.Framing.{Frames, Framing, framed_sheet, k_at, m_at, n_at, sheet_in}
use Rattle.sheet.specs.Layout.{at_trailer, distance, place_of, sheet_length}
use Rattle.sheet.specs.Outcomes.{Rechecking}
use Rattle.sheet.specs.Rechecks.{left_by, rechecks, then_left}
use Rattle.sheet.specs.Sheets.{Sheet, sheet_of}
use Rattle.sheet.specs.Writing.{WrittenAs, Wrote, written_of}
use Rattle.sheet.proofs.Accepting.{Accepting, accepting, claims_held}
use Rattle.sheet.proofs.Fours.{bytes_told, number_told}
use Rattle.sheet.proofs.Renumbered.{Says, numbers_again}
use Rattle.sheet.proofs.Retold.{basis_at, coefficient_said, held_said, range_said, settings_said, states_said}
use Rattle.sheet.proofs.Shaped.{Shaped, shaped}

-- two sheets that say the same of everything before the trailer
pub record Agree (v w : Sheet) : Type 0 where
  pub scale : v.scale ≡ w.scale
  pub states : v.states ≡ w.states
  pub settings : v.settings ≡ w.settings
  pub narrowings : v.narrowings ≡ w.narrowings
  pub numbers : (t : ℕ) → t < at_trailer w.states w.settings → v.number t ≡ w.number t

-- ---- after an accepted recheck
module _ (S : ℕ) (M : Meaning) (h : List Given) (w : Sheet) (k : List Given) (a : Accepting S M h w k) where
  abbrev b : Basis
  b = basis_at w h w.narrowings

  pub accepted_held : holds S k ≡ Some (basis_at w h w.narrowings)
  accepted_held = ap (holds S) a.calls_are ∙ held_said w h S w.narrowings

  pub accepted_states : states_of k ≡ w.states
  accepted_states = ap states_of a.calls_are ∙ states_said w h w.narrowings

  pub accepted_says : Says S k (basis_at w h w.narrowings) w
  accepted_says = record {
    states = accepted_states;
    settings = ap settings_of a.calls_are ∙ settings_said w h w.narrowings;
    coefficients = λ t l. ap (λ g. posted g (place_of w.states t)) a.calls_are ∙ coefficient_said w h t w.narrowings l;
    ranges = λ u l. ap (λ g. range_of g (suc u)) a.calls_are ∙ range_said w h w.narrowings u l;
    table = refl;
    guesses = refl;
    box_is = refl;
    claims = claims_held S w k b accepted_held accepted_states a.claimed;
  }

  pub accepted_agrees : Agree (sheet_of S k (basis_at w h w.narrowings)) w
  accepted_agrees = record {
    scale = sym a.scale_is;
    states = accepted_says.states;
    settings = accepted_says.settings;
    narrowings = refl;
    numbers = λ t l. numbers_again S k b w accepted_says t l;
  }

-- ---- a sheet that agrees with what bytes say is written as those bytes
module _ (T : ℕ) (bs before after : List ℕ) (v : Sheet) (s : Shaped T bs) (g : Agree v (framed_sheet T bs)) (small : Bytes bs) (fits : Bytes after) (r : Wrote v before after) where
  abbrev n : ℕ
  n = n_at T bs

  abbrev k : ℕ
  k = k_at T bs

  same_length : sheet_length v.states v.settings ≡ length bs
  same_length = ap (λ x. sheet_length x v.settings) g.states ∙ ap (sheet_length n) g.settings ∙ sym s.whole

  same_trailer : at_trailer v.states v.settings ≡ at_trailer n k
  same_trailer = ap (λ x. at_trailer x v.settings) g.states ∙ ap (at_trailer n) g.settings

  in_numbers : (i : ℕ) → i < 4 * at_trailer n k → get_or after i 0 ≡ get_or bs i 0
  in_numbers i l =
      let t : ℕ = i / 4 in
      let m : t < at_trailer n k = omega arith in
      let e : number_at after (4 * t) ≡ number_at bs (4 * t) = r.numbers t (omega (arith, same_trailer, m)) ∙ g.numbers t m in
      let j : 4 * t + i % 4 ≡ i = omega arith in
      subst (λ z. get_or after z 0 ≡ get_or bs z 0) j (number_told after bs fits small (4 * t) e (i % 4) (omega arith))

  in_distances : (i : ℕ) → i < 20 → get_or after (4 * at_trailer n k + i) 0 ≡ get_or bs (4 * at_trailer n k + i) 0
  in_distances i l =
      let p : ℕ = i / 4 in
      let d : distance v.states v.settings p ≡ distance n k p = ap (λ x. distance x v.settings p) g.states ∙ ap (λ x. distance n x p) g.settings in
      let x : 4 * at_trailer v.states v.settings + 4 * p ≡ 4 * at_trailer n k + 4 * p = ap (λ z. 4 * z + 4 * p) same_trailer in
      let y : length bs - 28 + 4 * p ≡ 4 * at_trailer n k + 4 * p = omega (arith, s.whole) in
      let e : unsigned_at after (4 * at_trailer n k + 4 * p) ≡ unsigned_at bs (4 * at_trailer n k + 4 * p) = sym (ap (unsigned_at after) x) ∙ r.distances p (omega arith) ∙ d ∙ sym (s.distances p (omega arith)) ∙ ap (unsigned_at bs) y in
      let j : 4 * at_trailer n k + 4 * p + i % 4 ≡ 4 * at_trailer n k + i = omega arith in
      subst (λ z. get_or after z 0 ≡ get_or bs z 0) j (bytes_told after bs fits small (4 * at_trailer n k + 4 * p) e (i % 4) (omega arith))

  in_scale : (i : ℕ) → i < 4 → get_or after (length bs - 8 + i) 0 ≡ get_or bs (length bs - 8 + i) 0
  in_scale i l =
      let e : unsigned_at after (length bs - 8) ≡ unsigned_at bs (length bs - 8) = sym (ap (λ z. unsigned_at after (z - 8)) same_length) ∙ r.scale ∙ g.scale ∙ sym s.scale in
      bytes_told after bs fits small (length bs - 8) e i l

  at_end : (d : ℕ) → get_or after (sheet_length v.states v.settings - d) 0 ≡ get_or bs (length bs - d) 0 → get_or after (length bs - d) 0 ≡ get_or bs (length bs - d) 0
  at_end d e = sym (ap (λ z. get_or after (z - d) 0) same_length) ∙ e

  in_head : (i : ℕ) → length bs - 4 ≤ i → i < length bs → get_or after i 0 ≡ get_or bs i 0
  in_head i p l = elim (cases_lt i (length bs - 3)) [
    | inl a ↦ to 4 (omega (arith, s.long)) (at_end 4 (r.states ∙ g.states))
    | inr a ↦ elim (cases_lt i (length bs - 2)) [
      | inl c ↦ to 3 (omega (arith, s.long)) (at_end 3 (r.settings ∙ g.settings))
      | inr c ↦ elim (cases_lt i (length bs - 1)) [
        | inl d ↦ to 2 (omega (arith, s.long)) (at_end 2 (r.narrowings ∙ g.narrowings))
        | inr d ↦ to 1 (omega (arith, s.long)) (at_end 1 (r.zero ∙ sym s.zero))
      ]
    ]
  ]
    where
      to : (d : ℕ) → length bs - d ≡ i → get_or after (length bs - d) 0 ≡ get_or bs (length bs - d) 0 → get_or after i 0 ≡ get_or bs i 0
      to d e q = subst (λ z. get_or after z 0 ≡ get_or bs z 0) e q

  pub bytes_again : (i : ℕ) → i < length bs → get_or after i 0 ≡ get_or bs i 0
  bytes_again i l = elim (cases_lt i (4 * at_trailer n k)) [
    | inl a ↦ in_numbers i a
    | inr a ↦ elim (cases_lt i (4 * at_trailer n k + 20)) [
      | inl c ↦ let j : 4 * at_trailer n k + (i - 4 * at_trailer n k) ≡ i = omega arith in subst (λ z. get_or after z 0 ≡ get_or bs z 0) j (in_distances (i - 4 * at_trailer n k) (omega arith))
      | inr c ↦ elim (cases_lt i (length bs - 4)) [
        | inl d ↦ let j : length bs - 8 + (i - (length bs - 8)) ≡ i = omega (arith, s.whole) in subst (λ z. get_or after z 0 ≡ get_or bs z 0) j (in_scale (i - (length bs - 8)) (omega (arith, s.whole)))
        | inr d ↦ in_head i d l
      ]
    ]
  ]

  pub length_again : sheet_length v.states v.settings ≡ length bs
  length_again = same_length

pub same_bytes : (S : ℕ) (M : Meaning) (h : List Given) (T : ℕ) (bs : List ℕ) → SameBytes S M h T bs
same_bytes S M h T bs k framed e before after l small fits written =
    let w = framed_sheet T bs in
    let a = accepting S M h w k e in
    let x = subst (λ o. WrittenAs (written_of S k o) before after (Ok l)) (accepted_held S M h w k a) written in
    let s = shaped T bs framed in
    let v = sheet_of S k (basis_at w h w.narrowings) in
    let g = accepted_agrees S M h w k a in
    let long : l ≡ length bs = x.1 ∙ length_again T bs before after v s g small fits x.2 in
    (long, λ i m. bytes_again T bs before after v s g small fits x.2 i (omega (arith, long, m)))

-- ---- of a framed sheet
sheet_is : (T : ℕ) (bs : List ℕ) (f : Framed) → Frames T bs f → sheet_in f ≡ framed_sheet T bs
sheet_is T bs f e =
    ap (λ x. record { scale = x; states = f.states; settings = f.settings; narrowings = f.narrowings; number = λ t. number_at f.bytes.now (4 * t) }) e.scale_is
    ∙ ap (λ x. record { scale = T; states = x; settings = f.settings; narrowings = f.narrowings; number = λ t. number_at f.bytes.now (4 * t) }) e.states_is
    ∙ ap (λ x. record { scale = T; states = n_at T bs; settings = x; narrowings = f.narrowings; number = λ t. number_at f.bytes.now (4 * t) }) e.settings_is
    ∙ ap (λ x. record { scale = T; states = n_at T bs; settings = k_at T bs; narrowings = x; number = λ t. number_at f.bytes.now (4 * t) }) e.narrowings_is
    ∙ ap (λ x. record { scale = T; states = n_at T bs; settings = k_at T bs; narrowings = m_at T bs; number = λ t. number_at x (4 * t) }) e.bytes_is

left_is : (S : ℕ) (M : Meaning) (h : List Given) (w : Sheet) (k : List Given) → rechecks S M h w ≡ Ok k → left_by S M h w ≡ k
left_is S M h w k e =
    let o = (accepting S M h w k e).opened in
    ap (λ r. then_left S M r h w (rechecks S M h w)) o.1 ∙ ap (then_left S M (Ok o.0) h w) e

-- the docket that an accepted recheck leaves writes the bytes that were framed
pub left_again : (S : ℕ) (M : Meaning) (h : List Given) (T : ℕ) (bs : List ℕ) (f : Framed) (r : Result Rechecked Fault) (N : Meaning) (P : Type 0) (d : Desk) →
    Framing T bs (Ok f) → Rechecking S M h (sheet_in f) r N P d → WritesAgain S (left_by S M h (sheet_in f)) bs r
left_again S M h T bs f (Ok q) N P d framed x =
    let said = x.said in
    let e = subst (λ w. rechecks S M h w ≡ Ok said.0) (sheet_is T bs f framed.1) said.1 in
    subst (λ k. Writes S k bs) (sym (left_is S M h (sheet_in f) said.0 said.1)) (same_bytes S M h T bs said.0 framed.0 e)
left_again S M h T bs f (Err g) N P d framed x = tt
