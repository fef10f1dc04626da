-- calls made one after another
use Rattle.std.proofs.Common.{◌≡◌, ℕ, zero, suc, ◌+◌, ◌*◌, ◌<◌, ◌≤◌, false, List, [], ◌∷◌, ◌++◌, ℤ, pos, negsuc, Ok, Err, Result, sym, refl, ap, ◌∙◌, subst, inl, inr, eq-or-lt_of_le, add-one, arith}
use Rattle.std.proofs.lemmas.Bool.{cond-false, cond-true, ne_eqb}
use Rattle.source.specs.Meaning.{Meaning}
use Rattle.law.specs.declared.answer.Answer.{Answer}
use Rattle.law.specs.declared.call.Call.{Call}
use Rattle.law.specs.declared.fault.Fault as law
use Rattle.law.specs.Calls.{Given, given}
use Rattle.law.specs.Calls.Given.{post}
use Rattle.law.specs.Decides.{decides}
use Rattle.docket.specs.declared.desk.Desk.{Desk}
use Rattle.docket.specs.Reflects.{Reflects, Replied}
use Rattle.sheet.specs.declared.fault.Fault.{Fault}
use Rattle.sheet.specs.Rechecks.{Read, gathered, is_zero, makes, post_of, read, then_made}
use Rattle.sheet.specs.Layout.{place_of}
use Rattle.sheet.specs.Remakes.{Remade, as_made}
use Rattle.sheet.specs.Sheets.{Sheet}

module _ (S : ℕ) (M : Meaning) where
  -- what follows is reached only where nothing was turned down
  passed : {A : Type 0} (r : Result A law.Fault) (b : ℕ) (x y z : Result (List Given) Fault) (k : List Given) → then_made S M r b x ≡ Ok k → (x ≡ Ok k → y ≡ z) → then_made S M r b y ≡ z
  passed (Ok a) b x y z k e f = f e
  passed (Err f) b x y z k e g = let w : ◌≡◌ {A = ℕ} 0 1 = cc in absurd (omega arith)

  halted : {A : Type 0} (r : Result A law.Fault) (b : ℕ) (x y : Result (List Given) Fault) (f : Fault) → then_made S M r b x ≡ Err f → (x ≡ Err f → y ≡ Err f) → then_made S M r b y ≡ Err f
  halted (Ok a) b x y f e g = g e
  halted (Err q) b x y f e g = e

  pub makes_on : (xs ys : List Read) (h k : List Given) → makes S M h xs ≡ Ok k → makes S M h (xs ++ ys) ≡ makes S M k ys
  unfolding makes
  makes_on [] ys h k e = let w : h ≡ k = cc in ap (λ z. makes S M z ys) w
  makes_on (c ∷ xs) ys h k e = passed (decides S M h c.call) c.byte (makes S M (c.call ∷ h) xs) (makes S M (c.call ∷ h) (xs ++ ys)) (makes S M k ys) k e (makes_on xs ys (c.call ∷ h) k)

  pub makes_stops : (xs ys : List Read) (h : List Given) (f : Fault) → makes S M h xs ≡ Err f → makes S M h (xs ++ ys) ≡ Err f
  unfolding makes
  makes_stops [] ys h f e = let w : ◌≡◌ {A = ℕ} 0 1 = cc in absurd (omega arith)
  makes_stops (c ∷ xs) ys h f e = halted (decides S M h c.call) c.byte (makes S M (c.call ∷ h) xs) (makes S M (c.call ∷ h) (xs ++ ys)) f e (makes_stops xs ys (c.call ∷ h) f)

  -- the calls that count are those that were made, put before the earlier ones
  pub makes_counts : (onto : List Read → List Given → List Given) → ((k : List Given) → onto [] k ≡ k) → ((c : Read) (cs : List Read) (k : List Given) → onto (c ∷ cs) k ≡ onto cs (c.call ∷ k)) → (cs : List Read) (h k : List Given) → makes S M h cs ≡ Ok k → k ≡ onto cs h
  unfolding makes
  makes_counts onto none more [] h k e = let w : k ≡ h = cc in w ∙ sym (none h)
  makes_counts onto none more (c ∷ cs) h k e = counted_on (decides S M h c.call) c.byte (makes S M (c.call ∷ h) cs) k e (makes_counts onto none more cs (c.call ∷ h) k) ∙ sym (more c cs h)
    where
      counted_on : {A : Type 0} (r : Result A law.Fault) (b : ℕ) (x : Result (List Given) Fault) (k : List Given) → then_made S M r b x ≡ Ok k → (x ≡ Ok k → k ≡ onto cs (c.call ∷ h)) → k ≡ onto cs (c.call ∷ h)
      counted_on (Ok a) b x k e f = f e
      counted_on (Err g) b x k e f = let z : ◌≡◌ {A = ℕ} 0 1 = cc in absurd (omega arith)

  -- one call
  pub made_one : (h : List Given) (b : ℕ) (c : Given) (r : Result Answer law.Fault) (N : Meaning) (P : Type 0) (d : Desk) → Replied S M h c r N P d → Remade S M h (read b c ∷ []) (as_made r b) N P d
  unfolding makes
  made_one h b c (Ok a) N P d x = (c ∷ h, sym (ap (λ r. then_made S M r b (Ok (c ∷ h))) x.said), x.left)
  made_one h b c (Err f) N P d x = (h, sym (ap (λ r. then_made S M r b (Ok (c ∷ h))) x.said), x.left)

  -- the same, of a call that says the same, and its answer
  pub made_given : (h : List Given) (b : ℕ) (c k : Given) (r : Result Answer law.Fault) (x : Result (Unit {0}) Fault) (N : Meaning) (P : Type 0) (d : Desk) → k ≡ c → x ≡ as_made r b → Replied S M h k r N P d → Remade S M h (read b c ∷ []) x N P d
  made_given h b c k r x N P d e w q = subst (λ z. Remade S M h (read b c ∷ []) z N P d) (sym w) (made_one h b c r N P d (subst (λ z. Replied S M h z r N P d) e q))

  -- the same, of a call as the code makes it
  pub made_as : (h : List Given) (b : ℕ) (c : Given) (k : Call) (r : Result Answer law.Fault) (x : Result (Unit {0}) Fault) (N : Meaning) (P : Type 0) (d : Desk) → given k ≡ c → x ≡ as_made r b → Replied S M h (given k) r N P d → Remade S M h (read b c ∷ []) x N P d
  made_as h b c k r x N P d e w q = made_given h b c (given k) r x N P d e w q

  pub made_none : (h : List Given) (N : Meaning) (P : Type 0) (d : Desk) → Reflects S M h N P d → Remade S M h [] (Ok tt) N P d
  unfolding makes
  made_none h N P d q = (h, refl, q)

  pub joined : (h k : List Given) (xs ys : List Read) (r : Result (Unit {0}) Fault) (N : Meaning) (P : Type 0) (d : Desk) → makes S M h xs ≡ Ok k → Remade S M k ys r N P d → Remade S M h (xs ++ ys) r N P d
  joined h k xs ys (Ok x) N P d e q = (q.0, makes_on xs ys h k e ∙ q.1, q.2)
  joined h k xs ys (Err f) N P d e q = (q.0, makes_on xs ys h k e ∙ q.1, q.2)

  pub stopped : (h : List Given) (xs ys : List Read) (f : Fault) (N : Meaning) (P : Type 0) (d : Desk) → Remade S M h xs (Err f) N P d → Remade S M h (xs ++ ys) (Err f) N P d
  stopped h xs ys f N P d q = (q.0, makes_stops xs ys h f q.1, q.2)

  -- ---- loops over what is gathered
  pub loop_first : (h : List Given) (f : ℕ → List Read) (N : Meaning) (P : Type 0) (d : Desk) → Reflects S M h N P d → Remade S M h (gathered 0 f) (Ok tt) N P d
  unfolding gathered
  loop_first h f N P d q = made_none h N P d q

  one_more : (f : ℕ → List Read) (t : ℕ) → gathered (t + 1) f ≡ gathered t f ++ f t
  unfolding gathered
  one_more f t = ap (λ m. gathered m f) (add-one t)

  pub loop_next : (h k : List Given) (f : ℕ → List Read) (t : ℕ) (r : Result (Unit {0}) Fault) (N : Meaning) (P : Type 0) (d : Desk) → makes S M h (gathered t f) ≡ Ok k → Remade S M k (f t) r N P d → Remade S M h (gathered (t + 1) f) r N P d
  loop_next h k f t r N P d e q = subst (λ xs. Remade S M h xs r N P d) (sym (one_more f t)) (joined h k (gathered t f) (f t) r N P d e q)

  makes_halts : (h : List Given) (f : ℕ → List Read) (t T : ℕ) (q : Fault) → t < T → makes S M h (gathered (t + 1) f) ≡ Err q → makes S M h (gathered T f) ≡ Err q
  unfolding gathered
  makes_halts h f t zero q l e = elim l [ ]
  makes_halts h f t (suc T) q l e =
      let m : t ≤ T = omega arith in
      elim (eq-or-lt_of_le m) [
        | inl s ↦ subst (λ z. makes S M h (gathered z f) ≡ Err q) (add-one t ∙ ap suc s) e
        | inr n ↦ makes_stops (gathered T f) (f T) h q (makes_halts h f t T q n e)
      ]

  pub loop_stopped : (h k : List Given) (f : ℕ → List Read) (t T : ℕ) (q : Fault) (N : Meaning) (P : Type 0) (d : Desk) → t < T → makes S M h (gathered t f) ≡ Ok k → Remade S M k (f t) (Err q) N P d → Remade S M h (gathered T f) (Err q) N P d
  loop_stopped h k f t T q N P d l e r = let n = loop_next h k f t (Err q) N P d e r in (n.0, makes_halts h f t T q l n.1, n.2)

  pub loop_last : (h : List Given) (f : ℕ → List Read) (t T : ℕ) (N : Meaning) (P : Type 0) (d : Desk) → t ≡ T → Remade S M h (gathered t f) (Ok tt) N P d → Remade S M h (gathered T f) (Ok tt) N P d
  loop_last h f t T N P d e q = subst (λ m. Remade S M h (gathered m f) (Ok tt) N P d) e q

-- ---- a coefficient of 0 asks for no post
nonzero : (z : ℤ) → (z ≡ pos 0 → ⊥) → is_zero z ≡ false
nonzero (pos n) e = ne_eqb n 0 (λ i. e (ap pos i))
nonzero (negsuc n) e = refl

module _ (S : ℕ) (M : Meaning) (h : List Given) (w : Sheet) (t : ℕ) where
  pub posted_none : (N : Meaning) (P : Type 0) (d : Desk) → w.number t ≡ pos 0 → Reflects S M h N P d → Remade S M h (post_of w t) (Ok tt) N P d
  posted_none N P d z q =
      let e : post_of w t ≡ [] = cond-true (is_zero (w.number t)) [] _ (ap is_zero z) in
      subst (λ xs. Remade S M h xs (Ok tt) N P d) (sym e) (made_none S M h N P d q)

  pub posted_one : (x : Result (Unit {0}) Fault) (N : Meaning) (P : Type 0) (d : Desk) → (w.number t ≡ pos 0 → ⊥) → Remade S M h (read (4 * t) (post (place_of w.states t) (w.number t)) ∷ []) x N P d → Remade S M h (post_of w t) x N P d
  posted_one x N P d z q =
      let e : post_of w t ≡ read (4 * t) (post (place_of w.states t) (w.number t)) ∷ [] = cond-false (is_zero (w.number t)) [] _ (nonzero (w.number t) z) in
      subst (λ xs. Remade S M h xs x N P d) (sym e) q
