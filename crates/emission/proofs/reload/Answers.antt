use Rattle.std.proofs.Common.{rules, arith, ◌≡◌, length}
use Rattle.lowering.specs.Cache.{reload}
use Rattle.emission.proofs.Slots.{one_loaded, all_loaded}
use Rattle.emission.proofs.reload.Goals as goal

pub loop-i-preserved : goal.loop-i-preserved
loop-i-preserved c =
    let h : length c.args.g.now.rc.guest ≡ 8 = search rules in
    one_loaded _ _ _ c.loop-i.invariant h (omega arith) _ _ c.host.ensures c.at_place.ensures

pub returns : goal.returns
unfolding reload
returns c = all_loaded _ _ _ c.loop-i.invariant (omega arith)
