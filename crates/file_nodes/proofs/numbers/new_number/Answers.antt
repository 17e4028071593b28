-- The numbers of the list ascend, so `partition_point` parts them.
use Rattle.std.proofs.Common.{rules}
use Rattle.file_nodes.proofs.Ranking.{list_place}
use Rattle.file_nodes.proofs.numbers.new_number.Goals as goal

pub returns : goal.returns
returns c =
    let behind = c.in-Some.ensures.lookup.0 in
    let list = c.in-Some-get.ensures.lookup.0 in
    let chunks = c.as_chunks.ensures in
    let point = c.partition_point.ensures in
    list_place _ _ _ _ _ _ _ c.if-listed-eq0.false behind.2 behind.3 chunks.front list.2 list.3 list.1 chunks.front_len point.bound point.partitioned
    (λ x r q k. search rules)
