use mathlib.Core.Path.{refl}
use Rattle.segment_handed.proofs.Halves.{stood_hole, stood_narrow, stood_wide, tree_narrow, tree_wide}
use Rattle.segment_handed.proofs.+hold_tree.Goals as goal

pub returns-then-node-eq0-clause-stood : goal.returns-then-node-eq0-clause-stood
returns-then-node-eq0-clause-stood t c = stood_hole c.if-node-eq0.true

pub returns-then-node-le1-clause-stood : goal.returns-then-node-le1-clause-stood
returns-then-node-le1-clause-stood t c = stood_narrow c.if-rows-eq0.false c.hold_node.ensures.stands c.if-not-hold_node.false c.if-node-le1.true

pub returns-then-node-le1-clause-held : goal.returns-then-node-le1-clause-held
returns-then-node-le1-clause-held t c =
    tree_narrow c.if-node-eq0.false (c.hold_node.ensures.stands.wide c.if-not-hold_node.false) c.hold_node.ensures.held c.if-not-hold_node.false c.if-node-le1.true

pub returns-clause-stood : goal.returns-clause-stood
returns-clause-stood t c =
    stood_wide c.if-rows-eq0.false c.hold_node.ensures.stands c.if-not-hold_node.false c.if-node-le1.false refl c.node.ensures c.node-2.ensures refl refl refl refl
    c.hold_tree.ensures.stood c.in_ok-rest.was c.hold_tree-2.ensures.stood

pub returns-clause-held : goal.returns-clause-held
returns-clause-held t c =
    tree_wide c.if-node-eq0.false (c.hold_node.ensures.stands.wide c.if-not-hold_node.false) c.hold_node.ensures.held c.if-not-hold_node.false c.if-node-le1.false
    refl c.node.ensures c.node-2.ensures c.unused-mids.ensures c.hold_tree.ensures.held c.in_ok-rest.was c.hold_tree-2.ensures.held
