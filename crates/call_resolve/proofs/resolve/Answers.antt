-- `call_resolve::resolve` meets its contract: refused by 3, or what `rule_resolve::resolve` answers. Assumes nothing.
use Rattle.rule_resolve.proofs.Sound.{sound_walkable}
use Rattle.call_resolve.proofs.Outcomes.{many_is, resolved_is}
use Rattle.call_resolve.proofs.resolve.Goals as goal

pub returns-then-hashes-gt1024 : goal.returns-then-hashes-gt1024
returns-then-hashes-gt1024 c = many_is _ _ c.args.hashes.now c.requires.0 c.requires.1 c.if-hashes-gt1024.true

pub resolve-m-requires : goal.resolve-m-requires
resolve-m-requires c = record { by_index = (_, _, sound_walkable _ c.requires.0); path_fits = c.requires.1 }

pub returns : goal.returns
returns c = resolved_is _ _ c.args.hashes.now c.requires.0 c.requires.1 c.if-hashes-gt1024.false (c.resolve-m.ensures _ _)
