-- Lines do what their structured code does.
use mathlib.Core.Path.{◌≡◌, refl, sym, ap, subst, subst₂, ◌∙◌}
use mathlib.Core.Bool.{Bool, true, false}
use mathlib.Core.List.{List, [], ◌∷◌, ◌++◌, map, append_assoc}
use Prim.Native.Nat.{ℕ, suc, ◌+◌, ◌-◌}
use native.Mathlib.Omega.{arith}
use native.Mathlib.Nat.{add-zero}
use lib.ListN.{length, drop}
use lib.Seq.{drop-append-add}
use Rattle.arm.specs.declared.Instr.{Instr}
use Rattle.code.specs.Items.{pick}
use Rattle.code.specs.Tree.{Depth, under, Var, inner, outer, Code, code, lit, to, exit, block, start, ◌then◌, words, Line, plain}
use Rattle.code.specs.Tree.{over, back, inside, lines}
use Rattle.code.specs.Machine.{Machine, Eff, fall, stop, next, goes, step, Reaches, stay, move, Out, fell, went, left, ended}
use Rattle.code.specs.Machine.{and_then, caught, go_on, of_eff, straight, does, Follows}
use Rattle.code.proofs.Tree.{lines-length}

module _ (M : Machine) where
  pub join : {p p₁ p₂ : ℕ} {ls ls₁ ls₂ : List Line} {s s₁ s₂ : M.State} → Reaches M p ls s p₁ ls₁ s₁ → Reaches M p₁ ls₁ s₁ p₂ ls₂ s₂ → Reaches M p ls s p₂ ls₂ s₂
  join stay r = r
  join (move h q) r = move h (join q r)

  -- another name for the place that is reached
  reach_as : {p q q' : ℕ} {ls k k' : List Line} {s s₁ : M.State} → q ≡ q' → k ≡ k' → Reaches M p ls s q k s₁ → Reaches M p ls s q' k' s₁
  reach_as {p} {q} {q'} {ls} {k} {k'} {s} {s₁} a b r = subst₂ (λ n l. Reaches M p ls s n l s₁) a b r

  -- first to a place, and from there
  after : {n : Depth} {p p₁ : ℕ} {ls ls₁ : List Line} {s s₁ : M.State} (q : ℕ) (k : List Line) (d : Var n → ℕ) (x : ℕ) (o : Out M.State M.Stop n)
      → Reaches M p ls s p₁ ls₁ s₁ → Follows M p₁ ls₁ s₁ q k d x o → Follows M p ls s q k d x o
  unfolding Follows
  after q k d x (fell s₂) r f = join r f
  after q k d x (went v s₂) r f = join r f
  after q k d x (left s₂) r f = join r f
  after q k d x (ended e) r f = record { p₁ = f.p₁; ls₁ = f.ls₁; s₁ = f.s₁; reaches = join r f.reaches; last = f.last }

  straight_ok : {n : Depth} (is : List Instr) (p q : ℕ) (k : List Line) (d : Var n → ℕ) (x : ℕ) (s : M.State) → q ≡ p + length is → Follows M p (map plain is ++ k) s q k d x (of_eff (straight M is s))
  unfolding straight Follows step goes
  straight_ok [] p q k d x s e = reach_as (sym (e ∙ add-zero p)) refl stay
  straight_ok {n} (i ∷ is) p q k d x s e = by (λ s₁. straight_ok is (suc p) q k d x s₁ (omega arith)) (M.exec i s) refl
    where
      by : ((s₁ : M.State) → Follows M {n = n} (suc p) (map plain is ++ k) s₁ q k d x (of_eff (straight M is s₁))) → (f : Eff M.State M.Stop) → M.exec i s ≡ f
          → Follows M p (plain i ∷ (map plain is ++ k)) s q k d x (of_eff (go_on f (λ s₁. straight M is s₁)))
      by rec (fall s₁) h = after q k d x (of_eff (straight M is s₁)) (move (ap (goes M p (map plain is ++ k)) h) stay) (rec s₁)
      by rec (stop r) h = record { p₁ = p; ls₁ = plain i ∷ (map plain is ++ k); s₁ = s; reaches = stay; last = ap (goes M p (map plain is ++ k)) h }

  -- code, and then what follows where it falls off its end
  sequence : {n : Depth} (p : ℕ) (ls : List Line) (s : M.State) (q₁ : ℕ) (k₁ : List Line) (d₁ : Var n → ℕ) (x₁ q : ℕ) (k : List Line) (d : Var n → ℕ) (x : ℕ) (o : Out M.State M.Stop n) (f : M.State → Out M.State M.Stop n)
      → ((v : Var n) → q₁ + d₁ v ≡ q + d v) → ((v : Var n) → drop (d₁ v) k₁ ≡ drop (d v) k) → q₁ + x₁ ≡ q + x → drop x₁ k₁ ≡ drop x k
      → Follows M p ls s q₁ k₁ d₁ x₁ o → ((s₁ : M.State) → Follows M q₁ k₁ s₁ q k d x (f s₁)) → Follows M p ls s q k d x (and_then o f)
  unfolding Follows
  sequence p ls s q₁ k₁ d₁ x₁ q k d x (fell s₁) f a b g h r t = after q k d x (f s₁) r (t s₁)
  sequence p ls s q₁ k₁ d₁ x₁ q k d x (went v s₁) f a b g h r t = reach_as (a v) (b v) r
  sequence p ls s q₁ k₁ d₁ x₁ q k d x (left s₁) f a b g h r t = reach_as g h r
  sequence p ls s q₁ k₁ d₁ x₁ q k d x (ended e) f a b g h r t = r

  catch : {n : Depth} (p : ℕ) (ls : List Line) (s : M.State) (q : ℕ) (k : List Line) (d : Var n → ℕ) (x : ℕ) (o : Out M.State M.Stop (under n)) → Follows M p ls s q k (inside 0 d) x o → Follows M p ls s q k d x (caught o)
  unfolding Follows
  catch p ls s q k d x (fell s₁) r = r
  catch p ls s q k d x (went inner s₁) r = reach_as (add-zero q) refl r
  catch p ls s q k d x (went (outer v) s₁) r = r
  catch p ls s q k d x (left s₁) r = r
  catch p ls s q k d x (ended e) r = r

  -- LINES DO WHAT THEIR CODE DOES
  pub does_ok : {n : Depth} (c : Code n) (p q : ℕ) (k : List Line) (d : Var n → ℕ) (x : ℕ) (s : M.State) → q ≡ p + words c → Follows M p (lines c d x ++ k) s q k d x (does M c p s)
  unfolding does lines words Follows step
  does_ok (code is) p q k d x s e = straight_ok is p q k d x s e
  does_ok (lit rt v) p q k d x s e = reach_as (sym (e ∙ omega arith)) refl (move refl stay)
  does_ok {n} (to h v) p q k d x s e = by (M.taken h s) refl
    where
      by : (t : Bool) → M.taken h s ≡ t → Follows M {n = n} p (over h (d v) ∷ k) s q k d x (pick t (went v s) (fell s))
      by true w = reach_as {q = suc p + d v} (omega arith) refl (move (rw w) stay)
      by false w = reach_as {q = suc p} (omega arith) refl (move (rw w) stay)
  does_ok {n} (exit h) p q k d x s e = by (M.taken h s) refl
    where
      by : (t : Bool) → M.taken h s ≡ t → Follows M {n = n} p (over h x ∷ k) s q k d x (pick t (left s) (fell s))
      by true w = reach_as {q = suc p + x} (omega arith) refl (move (rw w) stay)
      by false w = reach_as {q = suc p} (omega arith) refl (move (rw w) stay)
  does_ok (block c) p q k d x s e = catch p (lines c (inside 0 d) x ++ k) s q k d x (does M c p s) (does_ok c p q k (inside 0 d) x s e)
  does_ok (start rd c) p q k d x s e =
      let b : Line = back rd (words c) in
      subst (λ l. Follows M p l s q k d x (and_then (does M c p s) (λ s₁. fell (M.address rd p s₁)))) (sym (append_assoc (lines c (λ v. suc (d v)) (suc x)) (b ∷ []) k))
      (sequence p (lines c (λ v. suc (d v)) (suc x) ++ (b ∷ k)) s (p + words c) (b ∷ k) (λ v. suc (d v)) (suc x) q k d x (does M c p s) (λ s₁. fell (M.address rd p s₁)) (λ v. omega arith) (λ v. refl) (omega arith) refl
      (does_ok c p (p + words c) (b ∷ k) (λ v. suc (d v)) (suc x) s refl)
      (λ s₁. reach_as {q = suc (p + words c)} (omega arith) refl (move (ap (λ (a : ℕ). next (suc (p + words c)) k (M.address rd a s₁)) (omega arith)) stay)))
  does_ok (c then b) p q k d x s e =
      let ls : List Line = lines b d x in
      let n : length ls ≡ words b = lines-length b d x in
      subst (λ l. Follows M p l s q k d x (and_then (does M c p s) (λ s₁. does M b (p + words c) s₁))) (sym (append_assoc (lines c (λ v. words b + d v) (words b + x)) ls k))
      (sequence p (lines c (λ v. words b + d v) (words b + x) ++ (ls ++ k)) s (p + words c) (ls ++ k) (λ v. words b + d v) (words b + x) q k d x (does M c p s) (λ s₁. does M b (p + words c) s₁)
      (λ v. omega arith) (λ v. ap (λ m. drop (m + d v) (ls ++ k)) (sym n) ∙ drop-append-add ls k (d v)) (omega arith) (ap (λ m. drop (m + x) (ls ++ k)) (sym n) ∙ drop-append-add ls k x)
      (does_ok c p (p + words c) (ls ++ k) (λ v. words b + d v) (words b + x) s refl)
      (λ s₁. does_ok b (p + words c) q k d x s₁ (e ∙ omega arith)))
