-- Each list is made as the opening world has it.
use Rattle.std.proofs.Common.{◌≡◌, ◌*◌, refl, ◌∙◌, replicate}
use Rattle.ring_state.specs.declared.plain.Plain.{Plain}
use Rattle.ring_state.proofs.Opening.{opens, have_shape}
use Rattle.ring_state.proofs.plain.Plain.new.Goals as goal

pub returns : goal.returns
returns c =
    let setup = c.args.setup.now in
    let d : Plain = record {
      alloc = c.args.alloc;
      shape = setup.shape;
      regions = c.in_ok-copy.field-0;
      opening = c.in_ok-copy-2.field-0;
      index = 0;
      tags = c.in_ok-tags.tags;
      sigs = c.in_ok-sigs.sigs;
      heap = c.in_ok-heap.heap;
      history = c.new.result;
      members = c.in_ok-members.members;
    } in
    let tags : d.tags.items ≡ replicate setup.shape.ring 0 = c.in_ok-tags.ensures in
    let sigs : d.sigs.items ≡ replicate (setup.shape.ring * setup.shape.sig_words) 0 = c.in_ok-sigs.ensures in
    let heap : d.heap.items ≡ setup.first = c.in_ok-heap.ensures ∙ c.as_slice.ensures in
    record {
      opens =
          opens d setup.callers c.in_ok-members.ensures setup.regions setup.first c.in_ok-copy.ensures c.in_ok-copy-2.ensures refl tags sigs heap
          c.new.ensures.items;
      shapes = have_shape d setup.callers c.in_ok-members.ensures;
    }
