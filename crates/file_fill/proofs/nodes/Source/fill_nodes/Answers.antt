-- Each return is a step of `proofs/FillingNodes`.
use Rattle.file_fill.proofs.FillingNodes.{nodes_no_end, nodes_wrong, nodes_right}
use Rattle.file_fill.proofs.nodes.Source.fill_nodes.Goals as goal

pub returns-in_err-end : goal.returns-in_err-end
returns-in_err-end c = rw c.from_residual.ensures (nodes_no_end _ _ _ _ c.in_err-end.ensures)

pub returns-in_err-filled : goal.returns-in_err-filled
returns-in_err-filled c = rw c.from_residual-in_err-filled.ensures (nodes_wrong _ _ _ _ c.in_ok-end.ensures c.fill_tree.ensures c.in_err-filled.was)

pub returns : goal.returns
returns c = nodes_right _ _ _ _ c.in_ok-end.ensures c.fill_tree.ensures c.in_ok-filled.was c.put_node_head.ensures c.put_row.ensures
