-- `public_tally::tally_lookup` meets its contract: refused by 1 or 14, or what the inner call answers. Assumes nothing.
use Rattle.model_sums.specs.Tally.{summed}
use Rattle.theory_refuse.proofs.Says.{says_yes, says_no}
use Rattle.theory_sums.proofs.Gates.{tally_lookup-unsound, tally_lookup-short-sums, tally_lookup-short, tally_lookup-short-spans}
use Rattle.shape_answer.specs.Lists.{path_list_of, tier_list_of, lists_of}
use Rattle.std.proofs.Common.{ap}
use mathlib.Core.Bool.{not}
use Rattle.public_tally.proofs.tally_lookup.Goals as goal

pub returns-then-not-sound_state : goal.returns-then-not-sound_state
returns-then-not-sound_state c = tally_lookup-unsound _ (says_no c.sound_state.result (ap not c.if-not-sound_state.true) c.sound_state.ensures) (summed (lists_of (path_list_of c.args.path_node.now c.args.path_len.now) (tier_list_of c.args.span_tier.now c.args.span_node.now c.args.span_start.now c.args.span_end.now)) c.args.sums.now) c.args.tiers.now c.args.hashes.now

pub returns-then-sums-lt59 : goal.returns-then-sums-lt59
returns-then-sums-lt59 c = tally_lookup-short-sums _ (says_yes c.sound_state.result (ap not c.if-not-sound_state.false) c.sound_state.ensures) (summed (lists_of (path_list_of c.args.path_node.now c.args.path_len.now) (tier_list_of c.args.span_tier.now c.args.span_node.now c.args.span_start.now c.args.span_end.now)) c.args.sums.now) c.args.tiers.now c.args.hashes.now c.if-sums-lt59.true

pub returns-then-not-path_fits : goal.returns-then-not-path_fits
returns-then-not-path_fits c = tally_lookup-short _ (says_yes c.sound_state.result (ap not c.if-not-sound_state.false) c.sound_state.ensures) (summed (lists_of (path_list_of c.args.path_node.now c.args.path_len.now) (tier_list_of c.args.span_tier.now c.args.span_node.now c.args.span_start.now c.args.span_end.now)) c.args.sums.now) c.args.tiers.now c.args.hashes.now c.if-sums-lt59.false (says_no c.path_fits.result (ap not c.if-not-path_fits.true) c.path_fits.ensures)

pub returns-then-not-tiers_fit : goal.returns-then-not-tiers_fit
returns-then-not-tiers_fit c = tally_lookup-short-spans _ (says_yes c.sound_state.result (ap not c.if-not-sound_state.false) c.sound_state.ensures) (summed (lists_of (path_list_of c.args.path_node.now c.args.path_len.now) (tier_list_of c.args.span_tier.now c.args.span_node.now c.args.span_start.now c.args.span_end.now)) c.args.sums.now) c.args.tiers.now c.args.hashes.now c.if-sums-lt59.false (says_yes c.path_fits.result (ap not c.if-not-path_fits.false) c.path_fits.ensures) (says_no c.tiers_fit.result (ap not c.if-not-tiers_fit.true) c.tiers_fit.ensures)

pub tally_lookup-requires : goal.tally_lookup-requires
tally_lookup-requires c = (says_yes c.sound_state.result (ap not c.if-not-sound_state.false) c.sound_state.ensures, says_yes c.path_fits.result (ap not c.if-not-path_fits.false) c.path_fits.ensures, says_yes c.tiers_fit.result (ap not c.if-not-tiers_fit.false) c.tiers_fit.ensures, c.if-sums-lt59.false)

pub returns : goal.returns
returns c = c.tally_lookup.ensures
