-- `prog_store::expire` keeps the state sound, by the equation of its call, and has room for the answer. Assumes nothing.
use Rattle.std.proofs.Common.{rules, arith}
use Rattle.prog_store.proofs.Laws.{expire_in, expire-keeps}
use Rattle.prog_store.proofs.expire.Goals as goal

pub put_expired-requires : goal.put_expired-requires
put_expired-requires c = (search rules, (expire_in _ _ _ _ _ _ _ c.store_expire-r.result c.store_expire-r.ensures, c.lend.ensures, omega (arith, c.requires.1)))

pub returns : goal.returns
returns c = expire-keeps _ _ _ _ _ _ _ c.store_expire-r.result c.store_expire-r.ensures c.requires.0
