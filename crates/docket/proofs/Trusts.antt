-- what a docket holds can be trusted
use Rattle.std.proofs.Common.{◌≡◌, ℕ, List, None, subst, arith}
use Rattle.source.specs.Meaning.{Meaning}
use Rattle.law.specs.Calls.{Given}
use Rattle.law.specs.History.{holds}
use Rattle.law.specs.Law.{SoundHeld, Trusted}
use Rattle.docket.specs.declared.desk.Desk.{Desk}
use Rattle.docket.specs.declared.desk.Stage.{Stage}
use Rattle.docket.specs.declared.desk.Stage.TheVariants.{Drafting, Prepared, Holding}
use Rattle.docket.specs.Reflects.{Reflects, Staged}

nothing_held : (S : ℕ) (h : List Given) → holds S h ≡ None → SoundHeld S h
nothing_held S h e some b k = let z : ◌≡◌ {A = ℕ} 0 1 = cc in absurd (omega arith)

staged_sound : (S : ℕ) (h : List Given) (t : Stage) → Staged S h t → SoundHeld S h
staged_sound S h Drafting s some b k = nothing_held S h s.1 some b k
staged_sound S h (Prepared p) s some b k = nothing_held S h s.2 some b k
staged_sound S h (Holding e) s some b k =
    let same : s.0 ≡ b = let a = s.1.holds_is in cc in
    let sound = s.1.enclosure_is.sound some in
    subst (Trusted S some h) same (record { one = sound.one; inside = λ p x c m. sound.inside p x c m s.0.narrowings })

pub sound_held : (S : ℕ) (M : Meaning) (h : List Given) (N : Meaning) (P : Type 0) (d : Desk) → Reflects S M h N P d → SoundHeld S h
sound_held S M h N P d q = staged_sound S h d.stage q.stage_is
