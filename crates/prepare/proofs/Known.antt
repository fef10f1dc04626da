-- the figures of a system are admitted, the numbers of a proposal are offered
use Rattle.std.proofs.Common.{◌≡◌, ℕ, ◌+◌, ◌*◌, ◌<◌, ◌≤◌, List, get_or, ℤ, pos, sym, ap, ◌∙◌, subst, arith}
use mathlib.Core.Path.{fun_ext}
use Rattle.method.specs.Limits.{Admitted, Offered}
use Rattle.method.specs.Method as method
use Rattle.span.specs.declared.scale.Scale.{Ghosts}
use Rattle.system.specs.declared.system.System.{System}
use Rattle.prepare.specs.declared.proposal.Proposal.{Proposal}
use Rattle.prepare.specs.Numbers.{Kept, offered}
use Rattle.prepare.specs.Proposals.{game, offer}

own_admitted : (s : System) → Admitted s.units (game s)
own_admitted s = record {
  states = s.size.1;
  settings = s.size.2;
  matrix = λ v i j. s.coefficients ((v * 12 + i) * 12 + j);
  payout = λ v i. s.payments (v * 12 + i);
  range = λ v. s.reach v;
}

pub admitted : (S : ℕ) (s : System) → S ≡ s.units → Admitted S (game s)
admitted S s e = subst (λ (u : ℕ). Admitted u (game s)) (sym e) (own_admitted s)

pub some : (S : ℕ) → 2 ≤ S → 0 < S
some S h = omega arith

module _ {X : Type 0} {T : Ghosts X} where
  pub is_offered : (p : Proposal X T) → Offered T.unit (offered p)
  is_offered p = record {
    table = λ i j. p.tabled (i * p.system.now.states + j);
    guess = λ i. p.guessed i;
  }

  -- the kept numbers are those given
  pub offered_same : (s : System) (r g : List ℤ) (p : Proposal X T) → Kept s r g p → offered p ≡ offer s.states r g
  offered_same s r g p k =
      both (λ i j. get_or p.table (i * p.system.now.states + j) (pos 0)) (λ i j. get_or r (i * s.states + j) (pos 0)) (λ i. get_or p.guesses i (pos 0)) (λ i. get_or g i (pos 0))
      (fun_ext (λ i. fun_ext (λ j. k.table (i * p.system.now.states + j) ∙ ap (λ (s : System). get_or r (i * s.states + j) (pos 0)) k.system)))
      (fun_ext k.guesses)
    where
      both : (t u : ℕ → ℕ → ℤ) (a b : ℕ → ℤ) → t ≡ u → a ≡ b → ◌≡◌ {A = method.Proposal} (record { table = t; guess = a }) (record { table = u; guess = b })
      both t u a b e f = rw (e, f)
