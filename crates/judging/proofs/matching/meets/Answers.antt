-- `judging::matching::meets` reads both vertices at indices that wrap. Assumes nothing.
use Prim.Native.Nat.{◌+◌, ◌-◌}
use mathlib.Core.Path.{sym, ap, ◌∙◌}
use Rattle.ring.specs.Held.{points_of}
use Rattle.ring.specs.Rings.{at}
use Rattle.ring.specs.Segment.{same}
use Rattle.ring.proofs.Same.{equal-same}
use Rattle.ring.proofs.Vertices.{at_rest}
use Rattle.judging.proofs.matching.meets.Goals as goal

pub returns : goal.returns
returns c =
    let a = c.args in
    let P = points_of a.one.now in
    let Q = points_of a.two.now in
    let here = c.vertex-2.ensures.here ∙ ap (at P) c.around-2.ensures.0 ∙ at_rest P c.len-n.result (a.a + a.t) (sym c.len-n.ensures.all) in
    let there = c.vertex.ensures.here ∙ ap (at Q) c.around.ensures.0 ∙ at_rest Q c.len-m.result (a.b + c.len-m.result - a.t) (sym c.len-m.ensures.all) in
    let wide = there ∙ ap (λ n. at Q (a.b + n - a.t)) c.len-m.ensures.all in
    c.eq.ensures ∙ equal-same c.vertex.result c.vertex-2.result ∙ (λ i. same (here i) (wide i))
