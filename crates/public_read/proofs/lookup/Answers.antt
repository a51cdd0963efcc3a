-- `public_read::lookup` meets its contract: refused by 1 or 14, or what the inner call answers. Assumes nothing.
use Rattle.theory_refuse.proofs.Says.{says_true, says_false}
use Rattle.shape_answer.specs.Lists.{path_list_of}
use Rattle.shape_answer.specs.Lists.{tier_list_of, lists_of}
use Rattle.theory_outcome.proofs.Gates.{lookup-unsound, lookup-short, lookup-short-spans}
use Rattle.public_read.proofs.lookup.Goals as goal

pub returns-then-not-sound_state : goal.returns-then-not-sound_state
returns-then-not-sound_state c = lookup-unsound _ (says_false c.if-not-sound_state.true c.sound_state.ensures) (lists_of (path_list_of c.args.path_node.now c.args.path_len.now) (tier_list_of c.args.span_tier.now c.args.span_node.now c.args.span_start.now c.args.span_end.now)) c.args.tiers.now c.args.hashes.now

pub returns-then-not-path_fits : goal.returns-then-not-path_fits
returns-then-not-path_fits c = lookup-short _ (says_true c.if-not-sound_state.false c.sound_state.ensures) (lists_of (path_list_of c.args.path_node.now c.args.path_len.now) (tier_list_of c.args.span_tier.now c.args.span_node.now c.args.span_start.now c.args.span_end.now)) c.args.tiers.now c.args.hashes.now (says_false c.if-not-path_fits.true c.path_fits.ensures)

pub returns-then-not-tiers_fit : goal.returns-then-not-tiers_fit
returns-then-not-tiers_fit c = lookup-short-spans _ (says_true c.if-not-sound_state.false c.sound_state.ensures) (lists_of (path_list_of c.args.path_node.now c.args.path_len.now) (tier_list_of c.args.span_tier.now c.args.span_node.now c.args.span_start.now c.args.span_end.now)) c.args.tiers.now c.args.hashes.now (says_true c.if-not-path_fits.false c.path_fits.ensures) (says_false c.if-not-tiers_fit.true c.tiers_fit.ensures)

pub lookup-requires : goal.lookup-requires
lookup-requires c = (says_true c.if-not-sound_state.false c.sound_state.ensures, says_true c.if-not-path_fits.false c.path_fits.ensures, says_true c.if-not-tiers_fit.false c.tiers_fit.ensures)
