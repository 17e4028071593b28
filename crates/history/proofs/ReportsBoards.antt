-- The boards of charges and the occupation report, computed.
use mathlib.Core.Path.{refl}
use mathlib.Core.List.{filter_map, flatten, flat_map}
use Rattle.lists.specs.Lists.{has, count, count_from, sum_of}
use Rattle.history.specs.Words.{line_of, those_with, stretch_of, byte_at, held_at, clip, clip_piece, below, inside, above}
use Rattle.history.specs.Lent.{too_short}
use Rattle.history.specs.Tree.{insert, add_location, add_all, tree_of, trees_of, node_count, entry_count, entries_in, widths}
use Rattle.history.specs.Rules.{every, halved, filled, lived, numbered, placed, ascends, sorted, summed, rule23, shares, apart}
use Rattle.history.specs.File.{bytes_of, number_of, block_bytes, node_bytes, file_bytes, place_in, map_tree, nodes_of, contents, file_of, onward, ◌>>=◌, give, refuse◌unless◌, field, number, many, read_block, read_nodes, read_root, read_file, tree_from, placed_in, rule20, rule21, rule22, load}
use Rattle.history.specs.Ledger.{opened, first_change, changed, read_by, update_by, record_by, settled, finish_by, install_by, install_days_by}
use Rattle.history.specs.Reads.{shows, seen}
use Rattle.history.specs.Refusals.{first_of, open_refusals, record_refusals, finish_refusals, install_refusals, days_refusals}
use Rattle.history.specs.Calls.{answer_to, accepted_by, leaves, after, answers, after_all}
use Rattle.history.specs.Days.{days_of, rises_from, days_taken, unlisted, place_from, shown_on, label_minute}
use Rattle.history.specs.Sums.{sum_over, byte_now}
use Rattle.history.specs.Occupation.{windows_of, given_by, occupied_by, divisor_in, divisor, reduced, tenths_of, occupation_by, unreported, occupation_refusals}
use Rattle.history.specs.Charges.{price_at, exact_by, charge_by, crosses, charge_refusals}
use Rattle.history.specs.ReportsBoards.{ReportsBoards}

pub reports_right : ReportsBoards
unfolding filter_map flatten flat_map has count count_from sum_of line_of those_with stretch_of byte_at held_at clip clip_piece below inside above too_short insert add_location add_all tree_of trees_of node_count entry_count entries_in widths every halved filled lived numbered placed ascends sorted summed rule23 shares apart bytes_of number_of block_bytes node_bytes file_bytes place_in map_tree nodes_of contents file_of onward ◌>>=◌ give refuse◌unless◌ field number many read_block read_nodes read_root read_file tree_from placed_in rule20 rule21 rule22 load opened first_change changed read_by update_by record_by settled finish_by install_by install_days_by shows seen first_of open_refusals record_refusals finish_refusals install_refusals days_refusals answer_to accepted_by leaves after answers after_all days_of rises_from days_taken unlisted place_from shown_on label_minute sum_over byte_now windows_of given_by occupied_by divisor_in divisor reduced tenths_of occupation_by unreported occupation_refusals price_at exact_by charge_by crosses charge_refusals
reports_right = record {
  fractions = refl;
  tenths = refl;
  reports = refl;
  none_reported = refl;
  most_windows = refl;
  most_cells = refl;
  before_those = refl;
  charges = refl;
  hours = refl;
  platforms = refl;
  whole_platform = refl;
  prices = refl;
}
