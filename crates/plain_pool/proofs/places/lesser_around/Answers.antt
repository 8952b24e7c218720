use Rattle.std.proofs.Common.{ℕ, ◌≡◌, ◌+◌, ap, sym, ◌∙◌, subst}
use Rattle.heap_geometry.specs.Place.{block_place, frame_of, index_of}
use Rattle.heap_geometry.proofs.PlaceLemmas.{frame_of-block_place, index_of-block_place}
use Rattle.plain_pool.specs.Search.{Reaches}
use Rattle.plain_pool.proofs.PlacesLemmas.{reaches-lower}
use Rattle.plain_pool.proofs.places.lesser_around.Goals as goal

pub returns-then-index-block_count-clause-around : goal.returns-then-index-block_count-clause-around
returns-then-index-block_count-clause-around c = λ same.
    let split = c.split_place-frame in
    let blocks = c.args.blocks.now in
    let its_frame : split.result.0 ≡ frame_of c.args.place =
    sym (ap frame_of (sym split.ensures.place) ∙ frame_of-block_place split.result.0 c.args.class split.result.1 split.ensures.index) in
    let its_index : split.result.1 ≡ index_of c.args.class c.args.place =
    sym (ap (index_of c.args.class) (sym split.ensures.place) ∙ index_of-block_place split.result.0 c.args.class split.result.1 split.ensures.index) in
    let first : Reaches blocks c.lesser_open-first.result (block_place split.result.0 c.args.class 0) =
    subst (Reaches blocks c.lesser_open-first.result) c.place_of.ensures.place c.lesser_open-first.ensures.reaches in
    let behind : Reaches blocks c.lesser_open.result (block_place split.result.0 c.args.class (split.result.1 + 1)) =
    subst (Reaches blocks c.lesser_open.result) c.place_of-then-index-block_count.ensures.place c.lesser_open.ensures.reaches in
    record {
      first =
          subst (λ (f : ℕ). Reaches blocks c.lesser_open.result (block_place f c.args.class 0)) its_frame
          (reaches-lower blocks c.lesser_open-first.result c.lesser_open.result (block_place split.result.0 c.args.class 0)
          c.lesser_open.ensures.lower first);
      behind =
          λ below.
          subst (λ (f : ℕ). Reaches blocks c.lesser_open.result (block_place f c.args.class (index_of c.args.class c.args.place + 1))) its_frame
          (subst (λ (i : ℕ). Reaches blocks c.lesser_open.result (block_place split.result.0 c.args.class (i + 1))) its_index behind);
    }
