-- The guard of a RAM block: the versions are compared, the helper is asked where they differ, and the block leaves with nothing done where
-- it answers 0.
--     guard-meets    the code of the guard does what the machine between makes of it
use mathlib.Core.Path.{◌≡◌, refl}
use mathlib.Core.Bool.{false, cond}
use mathlib.Core.Option.{none}
use mathlib.Core.List.{List, [], ◌∷◌}
use Prim.Native.Nat.{ℕ, ◌%◌, ◌^◌, ◌<◌}
use lib.Dec.{eqb}
use Rattle.block.specs.declared.Block.{Block}
use Rattle.block.specs.Checked.{Checked}
use Rattle.code.specs.Tree.{Depth, Code}
use Rattle.machine.specs.State.{State}
use Rattle.machine.specs.Execute.{Helpers}
use Rattle.card.specs.Card.{arrive, Outcome as CardOutcome}
use Rattle.card.specs.Card.{guard as card_guard}
use Rattle.card.specs.Memory.{ask as ask_card}
use Rattle.card.specs.Step.{exits}
use Rattle.lowering.specs.Cache.{empty_cache}
use Rattle.demand.specs.Premises.{Guarded}
use Rattle.relation.specs.Abs.{Abs, kill, if_got, go, off}
use Rattle.relation.specs.Relation.{Body, Meets}
use Rattle.registers.proofs.Basics.{test}
use Rattle.simulation.proofs.Versions as versions-of
use Rattle.simulation.proofs.Guard.{guard_equal, guard-stays, guard-leaves}

module _ {b : Block} {h : Helpers} {s0 : State} (B : Body b h s0) (C : Checked b) (base : ℕ) (n : Depth) (G : Guarded b.guard h s0) (a : Abs) where
  abbrev at : ℕ
  at = versions-of.at B C base n G a

  abbrev guard_code : (pc : ℕ) → Code n
  guard_code = versions-of.guard_code B C base n G a

  abbrev ours : ℕ
  ours = versions-of.ours B C base n G a

  abbrev theirs : ℕ
  theirs = versions-of.theirs B C base n G a

  abbrev plain : Abs
  plain = versions-of.plain B C base n G a

  pub guard-meets : (pc : ℕ) → pc < 2 ^ 32
      → Meets h base b s0 empty_cache a {n = n} (guard_code pc) empty_cache
      (cond (eqb ours theirs) (go plain)
      (if_got (ask_card (card_guard at) a.c.outcomes a.c)
      (λ v c. cond (eqb v 0) (off exits (arrive pc 0 c)) (go (record { c = c; t = kill a.t; f = none })))))
  guard-meets pc l = test (eqb ours theirs) (λ e. rw e (guard_equal B C base n G a pc e)) (λ e. rw e (by e a.c.outcomes refl))
    where
      by : eqb ours theirs ≡ false → (l₁ : List CardOutcome) → a.c.outcomes ≡ l₁
          → Meets h base b s0 empty_cache a {n = n} (guard_code pc) empty_cache
          (if_got (ask_card (card_guard at) l₁ a.c)
          (λ v c. cond (eqb v 0) (off exits (arrive pc 0 c)) (go (record { c = c; t = kill a.t; f = none }))))
      by e [] m = tt
      by e (o ∷ os) m = test (eqb (o.answer % 2 ^ 32) 0) (λ f. rw f (guard-leaves B C base n G a o os m pc l e f)) (λ f. rw f (guard-stays B C base n G a o os m pc e f))
