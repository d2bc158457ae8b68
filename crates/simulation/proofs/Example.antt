-- The theorem of the examples' blocks, whose runs both sides compute.
use Prim.Native.Nat.{◌^◌}
use lib.ListN.{length}
use Rattle.card.specs.Step.{exits, chains, looks_up}
use Rattle.lowering.specs.Compile.{block_words}
use Rattle.machine.specs.Machine.{run}
use Rattle.demand.specs.Premises.{first, body}
use Rattle.demand.specs.Claim.{Meets}
use Rattle.example.proofs.Common.{helpers, not_stopped}
use Rattle.example.proofs.Start.{block, card, start}
use Rattle.example.proofs.Both.{end, card-ends}
use Rattle.example.proofs.Premises.{checked, premises_met}
use Rattle.example.proofs.LookupStart.{block as lookup_block, card as lookup_card, start as lookup_start}
use Rattle.example.proofs.LookupBoth.{end as lookup_end, card-ends as lookup-ends}
use Rattle.example.proofs.LookupPremises.{checked as lookup-checked, premises_met as lookup-premises-met}
use Rattle.example.proofs.GuardStart.{block as ram_block, helpers as ram_helpers, card as ram_card, start as ram_start}
use Rattle.example.proofs.GuardBoth.{ran, stayed, card-runs, card-leaves}
use Rattle.example.proofs.GuardPremises.{checked as ram-checked, premises_met as ram-premises-met}
use Rattle.simulation.proofs.Demand.{demand_3}

-- from the first word, by a chain site
pub example_meets : Meets block helpers first (chains 0) end start (run (length (block_words block)) helpers start)
example_meets = demand_3 block helpers first 100 card start checked premises_met (chains 0) end card-ends

-- from the body, by the table
pub lookup-meets : Meets lookup_block helpers body looks_up lookup_end lookup_start (run (length (block_words lookup_block)) helpers lookup_start)
lookup-meets = demand_3 lookup_block helpers body 9 lookup_card lookup_start lookup-checked lookup-premises-met looks_up lookup_end lookup-ends

-- a RAM block, whose versions differ: the helper answers 2^31, or 0
pub guard-runs : Meets ram_block ram_helpers first (chains 0) ran (ram_start (2 ^ 31))
    (run (length (block_words ram_block)) ram_helpers (ram_start (2 ^ 31)))
guard-runs =
    demand_3 ram_block ram_helpers first 100 (ram_card (2 ^ 31)) (ram_start (2 ^ 31)) ram-checked
    (ram-premises-met (2 ^ 31) (not_stopped (chains 0) ran card-runs)) (chains 0) ran card-runs

pub guard-leaves : Meets ram_block ram_helpers first exits stayed (ram_start 0) (run (length (block_words ram_block)) ram_helpers (ram_start 0))
guard-leaves =
    demand_3 ram_block ram_helpers first 100 (ram_card 0) (ram_start 0) ram-checked
    (ram-premises-met 0 (not_stopped exits stayed card-leaves)) exits stayed card-leaves
