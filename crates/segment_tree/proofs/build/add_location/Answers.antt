use Rattle.segment_tree.proofs.build.add_location.Goals as goal

pub returns : goal.returns
returns c = c.add_down.ensures.from _ _ _ c.reach-root.ensures
