use Rattle.std.proofs.Common.{◌≡◌, true, false, ◌&&◌, eqb, leb, subst, inl, inr}
use Rattle.std.proofs.lemmas.Bool.{and_from, and_left, and_right, eq-eqb, le-leb, lt-leb, ne_eqb}
use Rattle.span.proofs.Verdicts.{no_after, no_here, no_none}
use Rattle.sheet.proofs.framed.framing.head.Goals as goal

pub returns-then-states-lt1 : goal.returns-then-states-lt1
returns-then-states-lt1 c =
    let n = c.byte_at-states.result in
    let no : (leb 1 n && leb n 12) ≡ false = elim c.then-states-lt1.either [ inl x ↦ and_left (leb 1 n) (leb n 12) (lt-leb 1 n x) | inr x ↦ and_right (leb 1 n) (leb n 12) (lt-leb n 12 x.1) ] in
    no_here _ _ _ (subst (λ z. (leb 1 z && leb z 12) ≡ false) c.byte_at-states.ensures no)

pub returns-then-settings-gt8 : goal.returns-then-settings-gt8
returns-then-settings-gt8 c =
    let n = c.byte_at-states.result in
    let yes : (leb 1 n && leb n 12) ≡ true = and_from (leb 1 n) (leb n 12) (le-leb 1 n c.if-states-lt1.false) (le-leb n 12 c.if-states-gt12.false) in
    no_after _ _ _ _ (subst (λ z. (leb 1 z && leb z 12) ≡ true) c.byte_at-states.ensures yes)
    (no_here _ _ _ (subst (λ z. leb z 8 ≡ false) c.byte_at-settings.ensures (lt-leb c.byte_at-settings.result 8 c.if-settings-gt8.true)))

pub returns-then-narrowings-gt16 : goal.returns-then-narrowings-gt16
returns-then-narrowings-gt16 c =
    let n = c.byte_at-states.result in
    let yes : (leb 1 n && leb n 12) ≡ true = and_from (leb 1 n) (leb n 12) (le-leb 1 n c.if-states-lt1.false) (le-leb n 12 c.if-states-gt12.false) in
    no_after _ _ _ _ (subst (λ z. (leb 1 z && leb z 12) ≡ true) c.byte_at-states.ensures yes)
    (no_after _ _ _ _ (subst (λ z. leb z 8 ≡ true) c.byte_at-settings.ensures (le-leb c.byte_at-settings.result 8 c.if-settings-gt8.false))
    (no_here _ _ _ (subst (λ z. leb z 16 ≡ false) c.byte_at-narrowings.ensures (lt-leb c.byte_at-narrowings.result 16 c.if-narrowings-gt16.true))))

pub returns-then-byte_at-ne0 : goal.returns-then-byte_at-ne0
returns-then-byte_at-ne0 c =
    let n = c.byte_at-states.result in
    let yes : (leb 1 n && leb n 12) ≡ true = and_from (leb 1 n) (leb n 12) (le-leb 1 n c.if-states-lt1.false) (le-leb n 12 c.if-states-gt12.false) in
    no_after _ _ _ _ (subst (λ z. (leb 1 z && leb z 12) ≡ true) c.byte_at-states.ensures yes)
    (no_after _ _ _ _ (subst (λ z. leb z 8 ≡ true) c.byte_at-settings.ensures (le-leb c.byte_at-settings.result 8 c.if-settings-gt8.false))
    (no_after _ _ _ _ (subst (λ z. leb z 16 ≡ true) c.byte_at-narrowings.ensures (le-leb c.byte_at-narrowings.result 16 c.if-narrowings-gt16.false))
    (no_here _ _ _ (subst (λ z. eqb z 0 ≡ false) c.byte_at.ensures (ne_eqb c.byte_at.result 0 c.if-byte_at-ne0.true)))))

pub returns : goal.returns
returns c =
    let n = c.byte_at-states.result in
    let yes : (leb 1 n && leb n 12) ≡ true = and_from (leb 1 n) (leb n 12) (le-leb 1 n c.if-states-lt1.false) (le-leb n 12 c.if-states-gt12.false) in (
      no_after _ _ _ _ (subst (λ z. (leb 1 z && leb z 12) ≡ true) c.byte_at-states.ensures yes)
          (no_after _ _ _ _ (subst (λ z. leb z 8 ≡ true) c.byte_at-settings.ensures (le-leb c.byte_at-settings.result 8 c.if-settings-gt8.false))
          (no_after _ _ _ _ (subst (λ z. leb z 16 ≡ true) c.byte_at-narrowings.ensures (le-leb c.byte_at-narrowings.result 16 c.if-narrowings-gt16.false))
          (no_after _ _ _ _ (subst (λ z. eqb z 0 ≡ true) c.byte_at.ensures (eq-eqb c.byte_at.result 0 c.if-byte_at-ne0.false)) no_none))),
      c.byte_at-states.ensures,
      c.byte_at-settings.ensures,
      c.byte_at-narrowings.ensures,
    )
