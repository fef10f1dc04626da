-- what is held at a stage, and what was written as the sheet of it
use Rattle.std.proofs.Common.{◌≡◌, ℕ, ◌≤◌, List, length, Some, Ok, sym, subst, arith}
use Rattle.enclosure.specs.declared.enclosure.Enclosure.{Enclosure}
use Rattle.law.specs.Calls.{Given}
use Rattle.law.specs.History.{Basis, settings_of, states_of}
use Rattle.docket.specs.declared.desk.Stage.{Stage}
use Rattle.docket.specs.declared.desk.Stage.TheVariants.{Drafting, Prepared, Holding}
use Rattle.docket.specs.Reflects.{Holds, Staged, enclosure_of}
use Rattle.sheet.specs.Layout.{sheet_length}
use Rattle.sheet.specs.Sheets.{Sheet, number_of}
use Rattle.sheet.specs.Writing.{Writing, WrittenAs, Wrote, written_of}

pub held_at : (S : ℕ) (h : List Given) (d : Stage) (e : Enclosure) → Staged S h d → Some e ≡ enclosure_of d → (b : Basis) × Holds S h b e
held_at S h Drafting e s i = let z : ◌≡◌ {A = ℕ} 0 1 = cc in absurd (omega arith)
held_at S h (Prepared p) e s i = let z : ◌≡◌ {A = ℕ} 0 1 = cc in absurd (omega arith)
held_at S h (Holding f) e s i = let w : f ≡ e = cc in subst (λ x. (b : Basis) × Holds S h b x) w s

-- a sheet of the numbers of h and b, by its n, k and narrowings
abbrev pub sheet_by : ℕ → List Given → Basis → ℕ → ℕ → ℕ → Sheet
sheet_by S h b n k m = record { scale = S; states = n; settings = k; narrowings = m; number = number_of S h b }

module _ (S : ℕ) (h : List Given) (b : Basis) (e : Enclosure) (s : Holds S h b e) (before after : List ℕ) where
  abbrev WroteBy : ℕ → ℕ → ℕ → Type 0
  WroteBy n k l = (sheet_length n k ≤ length before) × (l ≡ sheet_length n k) × Wrote (sheet_by S h b n k e.narrowings) before after

  pub wrote_held : (n k l : ℕ) → n ≡ states_of h → k ≡ settings_of h → WroteBy n k l → Writing S h before after (Ok l)
  wrote_held n k l en ek w =
      let a = subst (λ x. WroteBy x (settings_of h) l) en (subst (λ x. WroteBy n x l) ek w) in
      let c = subst (λ x. (sheet_length (states_of h) (settings_of h) ≤ length before) × (l ≡ sheet_length (states_of h) (settings_of h)) × Wrote (sheet_by S h b (states_of h) (settings_of h) x) before after) s.enclosure_is.held.count a in
      subst (λ o. WrittenAs (written_of S h o) before after (Ok l)) (sym s.holds_is) c
