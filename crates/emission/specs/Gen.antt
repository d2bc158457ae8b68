-- What a method of `Gen` reads of it, and the part of it that a guest register's move changes.
use Rattle.block.specs.declared.Block.{Block}
use Rattle.lowering.specs.declared.RegCache.{RegCache}
use Rattle.lowering.specs.Given.{given}
use Rattle.emission.specs.declared.Gen.{Gen}

-- the block, as far as its fields matter
abbrev pub given_of : Gen → Block
given_of g = given g.lay g.mem g.addr

abbrev pub with_cache : Gen → RegCache → Gen
with_cache g rc = record { lay = g.lay; mem = g.mem; addr = g.addr; rc = rc; sites = g.sites }
