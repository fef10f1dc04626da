-- what bytes have where every question of framing gets a yes
use Rattle.std.proofs.Common.{◌≡◌, ℕ, ◌+◌, ◌-◌, ◌*◌, ◌<◌, ◌≤◌, leb, List, ◌∷◌, length, get_or, None}
use Rattle.std.proofs.lemmas.Bool.{and_from, and_parts, eq-eqb, eqb-true, le-leb, leb-true}
use Rattle.span.specs.Questions.{first_no}
use Rattle.span.proofs.Verdicts.{no_after}
use Rattle.enclosure.proofs.Asked.{each_yes}
use Rattle.prepare.proofs.Firsts.{all_yes, first_yes}
use Rattle.law.proofs.Nones.{none_after, none_before, none_later}
use Rattle.sheet.specs.Bytes.{unsigned_at}
use Rattle.sheet.specs.Framing.{distance_questions, framing_questions, head_questions, k_at, length_asked, m_at, n_at}
use Rattle.sheet.specs.Layout.{distance, sheet_length}

pub record Shaped (T : ℕ) (bs : List ℕ) : Type 0 where
  pub long : 28 ≤ length bs
  pub scale : unsigned_at bs (length bs - 8) ≡ T
  pub some : 1 ≤ n_at T bs
  pub states : n_at T bs ≤ 12
  pub settings : k_at T bs ≤ 8
  pub narrowings : m_at T bs ≤ 16
  pub zero : get_or bs (length bs - 1) 0 ≡ 0
  pub whole : length bs ≡ sheet_length (n_at T bs) (k_at T bs)
  pub distances : (s : ℕ) → s < 5 → unsigned_at bs (length bs - 28 + 4 * s) ≡ distance (n_at T bs) (k_at T bs) s

-- n and k where the head's questions get a yes
pub head_sized : (T : ℕ) (bs : List ℕ) → first_no (head_questions T bs) ≡ None → (1 ≤ n_at T bs) × (n_at T bs ≤ 12) × (k_at T bs ≤ 8)
head_sized T bs head =
    let n = and_parts (leb 1 (n_at T bs)) (leb (n_at T bs) 12) (first_yes _ _ _ head) in
    (leb-true 1 (n_at T bs) n.0, leb-true (n_at T bs) 12 n.1, leb-true (k_at T bs) 8 (first_yes _ _ _ (none_after _ _ head)))

pub shaped : (T : ℕ) (bs : List ℕ) → first_no (framing_questions T bs) ≡ None → Shaped T bs
shaped T bs e =
    let a = none_after _ _ e in
    let c = none_after _ _ a in
    let rest = none_later (head_questions T bs) (length_asked bs (n_at T bs) (k_at T bs) ∷ distance_questions T bs) c in
    let head = none_before (head_questions T bs) (length_asked bs (n_at T bs) (k_at T bs) ∷ distance_questions T bs) c in
    let second = none_after _ _ head in
    let third = none_after _ _ second in
    let size = head_sized T bs head in
    record {
      long = leb-true 28 (length bs) (first_yes _ _ _ e);
      scale = eqb-true _ T (first_yes _ _ _ a);
      some = size.0;
      states = size.1;
      settings = size.2;
      narrowings = leb-true (m_at T bs) 16 (first_yes _ _ _ third);
      zero = eqb-true _ 0 (first_yes _ _ _ (none_after _ _ third));
      whole = eqb-true (length bs) _ (first_yes _ _ _ rest);
      distances = λ s l. eqb-true _ _ (each_yes 5 _ (none_after _ _ rest) s l);
    }

-- and bytes that have it get no no
pub framed_by : (T : ℕ) (bs : List ℕ) → Shaped T bs → first_no (framing_questions T bs) ≡ None
framed_by T bs s =
    no_after _ _ _ None (le-leb 28 (length bs) s.long) (
    no_after _ _ _ None (eq-eqb _ T s.scale) (
    no_after _ _ _ None (and_from _ _ (le-leb 1 (n_at T bs) s.some) (le-leb (n_at T bs) 12 s.states)) (
    no_after _ _ _ None (le-leb (k_at T bs) 8 s.settings) (
    no_after _ _ _ None (le-leb (m_at T bs) 16 s.narrowings) (
    no_after _ _ _ None (eq-eqb _ 0 s.zero) (
    no_after _ _ _ None (eq-eqb (length bs) _ s.whole) (
    all_yes 5 _ (λ i l. eq-eqb _ _ (s.distances i l)))))))))
