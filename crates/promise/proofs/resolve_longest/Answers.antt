-- `promise::resolve_longest` meets its contract: the promise follows from the contract of the public call. Assumes nothing.
use Rattle.promise.proofs.Prefix.{resolved_longest}
use Rattle.promise.proofs.resolve_longest.Goals as goal

pub returns : goal.returns
returns c = λ p e. resolved_longest _ _ _ _ _ _ c.resolve.ensures p e
