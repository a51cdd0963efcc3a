-- `public_touch::store_used` meets its contract: four calls, one after another, and what they say is put together by the laws of `Whole.antt`. Assumes nothing.
use Rattle.call_touch_span.specs.Turn.{Others}
use Rattle.shape_state.specs.Lent.{ranges_of}
use Rattle.public_touch.proofs.Whole.{same_ranges, kept-turns, kept-writes, kept-outcome}
use Rattle.public_touch.proofs.store_used.Goals as goal

pub touch_spans-w-requires : goal.touch_spans-w-requires
touch_spans-w-requires c =
    let a = c.args in
    let y = c.start_touch-y in
    let k = y.ensures in
    let o : Others = record {
      parent = a.parent.now;
      len = a.len.now;
      run = a.run.now;
      words = a.words.now;
      pin_node = a.pin_node.now;
      pin_start = a.pin_start.now;
      pin_end = a.pin_end.now;
      pin_count = a.pin_count.now;
    } in
    let e = same_ranges k.1 k.2 k.3 k.4 k.5 k.6 k.7 in
    kept-turns o a.depth.now a.bytes.now _ _ _ a.s a.spans.now a.time a.counted _ _ _ e k.8 k.9 y.result k.0 c.look_spans-z.result c.look_spans-z.ensures

pub finish-requires : goal.finish-requires
finish-requires c =
    let a = c.args in
    let y = c.start_touch-y in
    let k = y.ensures in
    let o : Others = record {
      parent = a.parent.now;
      len = a.len.now;
      run = a.run.now;
      words = a.words.now;
      pin_node = a.pin_node.now;
      pin_start = a.pin_start.now;
      pin_end = a.pin_end.now;
      pin_count = a.pin_count.now;
    } in
    let e = same_ranges k.1 k.2 k.3 k.4 k.5 k.6 k.7 in
    kept-writes o a.depth.now a.bytes.now _ _ _ a.s a.spans.now a.time a.counted _ _ _ e k.8 k.9 y.result k.0 c.look_spans-z.result c.look_spans-z.ensures
    _ _ c.touch_spans-w.result c.touch_spans-w.ensures

pub returns : goal.returns
returns c =
    let a = c.args in
    let y = c.start_touch-y in
    let k = y.ensures in
    let o : Others = record {
      parent = a.parent.now;
      len = a.len.now;
      run = a.run.now;
      words = a.words.now;
      pin_node = a.pin_node.now;
      pin_start = a.pin_start.now;
      pin_end = a.pin_end.now;
      pin_count = a.pin_count.now;
    } in
    let e = same_ranges k.1 k.2 k.3 k.4 k.5 k.6 k.7 in
    let w = c.touch_spans-w in
    kept-outcome o a.depth.now a.bytes.now _ _ _ a.s a.spans.now a.time a.counted _ _ _ e k.8 k.9 y.result k.0 c.look_spans-z.result c.look_spans-z.ensures
    (ranges_of w.new.node w.new.start w.new.end w.new.id w.new.stamp w.new.touched w.new.write) w.new.marks w.result w.ensures c.finish.new.books c.finish.result c.finish.ensures
