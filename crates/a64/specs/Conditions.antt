-- The condition codes: the numbers of the `cond` field, and the inverse condition.
use Rattle.std.specs.Prelude.{ℕ}
use Rattle.a64.specs.declared.Cond.{Cond}
use Rattle.a64.specs.declared.Cond.TheVariants.{Eq, Ne, Hs, Lo, Mi, Pl, Vs, Vc, Hi, Ls, Ge, Lt, Gt, Le, Al}

abbrev pub code : Cond → ℕ
code Eq = 0
code Ne = 1
code Hs = 2
code Lo = 3
code Mi = 4
code Pl = 5
code Vs = 6
code Vc = 7
code Hi = 8
code Ls = 9
code Ge = 10
code Lt = 11
code Gt = 12
code Le = 13
code Al = 14

abbrev pub inverse : Cond → Cond
inverse Eq = Ne
inverse Ne = Eq
inverse Hs = Lo
inverse Lo = Hs
inverse Mi = Pl
inverse Pl = Mi
inverse Vs = Vc
inverse Vc = Vs
inverse Hi = Ls
inverse Ls = Hi
inverse Ge = Lt
inverse Lt = Ge
inverse Gt = Le
inverse Le = Gt
inverse Al = Al
