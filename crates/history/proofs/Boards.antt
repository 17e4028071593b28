-- The boards to try, computed. Assumes nothing.
use mathlib.Core.Path.{◌≡◌, refl}
use mathlib.Core.List.{map, filter_map, flatten, flat_map}
use Rattle.lists.specs.Lists.{has, count, count_from, sum_of}
use Rattle.history.specs.Words.{line_of, those_with, stretch_of, byte_at, held_at, clip, clip_piece, below, inside, above}
use Rattle.history.specs.Lent.{too_short}
use Rattle.history.specs.Tree.{insert, add_location, add_all, tree_of, trees_of, node_count, entry_count, entries_in, widths}
use Rattle.history.specs.Find.{path, visited, window, find}
use Rattle.history.specs.Rules.{every, halved, filled, lived, numbered, placed, ascends, sorted, summed, rule23, shares, apart}
use Rattle.history.specs.File.{bytes_of, number_of, block_bytes, node_bytes, file_bytes, place_in, map_tree, nodes_of, contents, file_of, file_by, onward, ◌>>=◌, give, refuse◌unless◌, field, number, many, read_block, read_nodes, read_root, read_file, tree_from, placed_in, rule20, rule21, rule22, load}
use Rattle.history.specs.Ledger.{opened, first_change, changed, read_by, update_by, record_by, settled, finish_by, install_by, install_days_by}
use Rattle.history.specs.Reads.{find_by, ascending_from, live_by, last_in, shows, seen, cells_by, label_of, clock_label}
use Rattle.history.specs.Refusals.{first_of, open_refusals, record_refusals, finish_refusals, install_refusals, days_refusals, window_refusals, neighbour_refusals, block_refusals, clock_refusals}
use Rattle.history.specs.Calls.{answer_to, accepted_by, leaves, after, answers, after_all}
use Rattle.history.specs.Boards.{marked, edges, ample, loading, told, played, expected, loaded_as, Load, listing_input, listing_output, refused_input, refused_output, MarkedBoards}
use Rattle.history.specs.Requested.{scratch_boards, touching_boards, change_boards, kind_boards, kind_files, several, mixed, mixed_file, label_boards, RequestedBoards, hours_boards, days_boards}
use Rattle.history.specs.Hours.{hours_at, calendar_of, covered, special_of, windows_of, open_minute, closed_cell, hours_taken, rises, days_ascend, calendar_taken}
use Rattle.history.specs.HoursBoards.{pairs, hours, special, calendar, no_week, monday, day_by_day, boards, night, bookings, eight, offers, HoursBoards}
use Rattle.history.specs.Printed.{printed, parsed, input_of, records_from, next_record, onto, read_record, record_lines, open_lines, lines_from, last_lines, op_line, refused_line, block_line, digits, four_digits, hex_digit, hex_bytes}
use Rattle.history.specs.Days.{days_of, rises_from, days_taken, length_of, span_of, start_of, unlisted, place_from, shown_on, label_minute}
use Rattle.history.specs.DaysBoards.{tell, short_days, stations, DaysBoards}
use Rattle.history.specs.DaysBoards as listed

marked_right : map played marked ≡ map expected marked
unfolding marked played expected told opened answers after_all after leaves answer_to accepted_by record_by finish_by settled read_by update_by changed first_change has those_with line_of every stretch_of byte_at held_at clip clip_piece below inside above filter_map first_of open_refusals record_refusals finish_refusals window_refusals block_refusals too_short insert add_location add_all tree_of trees_of node_count entry_count sum_of path visited window find find_by shows seen cells_by count_from label_of clock_label clock_refusals label_minute shown_on place_from unlisted
marked_right = refl

edges_right : map played edges ≡ map expected edges
unfolding edges played expected told opened answers after_all after leaves answer_to accepted_by record_by finish_by settled read_by update_by changed first_change has those_with line_of every stretch_of byte_at held_at clip clip_piece below inside above filter_map first_of open_refusals record_refusals finish_refusals window_refusals block_refusals too_short insert add_location add_all tree_of trees_of node_count entry_count sum_of path visited window find find_by shows seen cells_by count_from label_of clock_label clock_refusals label_minute shown_on place_from unlisted
edges_right = refl

files_right : map loaded_as loading ≡ map (λ (x : Load). x.comes) loading
unfolding loading line_of loaded_as load read_file read_root read_nodes read_block many number field give onward ◌>>=◌ refuse◌unless◌ bytes_of number_of file_of file_bytes contents block_bytes node_bytes nodes_of map_tree place_in those_with has count_from entries_in tree_from placed_in rule20 rule21 rule22 rule23 every halved filled lived numbered placed ascends sorted summed widths count shares apart node_count entry_count sum_of flatten flat_map
files_right = refl

listing-printed : printed listing_input ≡ listing_output
unfolding printed listing_input listing_output parsed input_of records_from next_record onto read_record number field give onward ◌>>=◌ refuse◌unless◌ number_of bytes_of record_lines open_lines lines_from last_lines op_line refused_line block_line digits four_digits hex_digit hex_bytes flatten flat_map opened answers after_all after leaves answer_to accepted_by record_by finish_by settled read_by update_by changed first_change has those_with line_of every stretch_of byte_at held_at clip clip_piece below inside above filter_map first_of open_refusals record_refusals finish_refusals window_refusals block_refusals too_short insert add_location add_all tree_of trees_of node_count entry_count sum_of path visited window find find_by shows seen cells_by count_from label_of clock_label clock_refusals label_minute shown_on place_from unlisted
listing-printed = refl

refusal_printed : printed refused_input ≡ refused_output
unfolding printed refused_input refused_output parsed input_of records_from next_record onto read_record number field give onward ◌>>=◌ refuse◌unless◌ number_of bytes_of record_lines open_lines lines_from last_lines op_line refused_line block_line digits four_digits hex_digit hex_bytes flatten flat_map opened answers after_all after leaves answer_to accepted_by record_by finish_by settled read_by update_by changed first_change has those_with line_of every stretch_of byte_at held_at clip clip_piece below inside above filter_map first_of open_refusals record_refusals finish_refusals window_refusals block_refusals too_short insert add_location add_all tree_of trees_of node_count entry_count sum_of path visited window find find_by shows seen cells_by count_from label_of clock_label clock_refusals label_minute shown_on place_from unlisted
refusal_printed = refl

pub boards_right : MarkedBoards
unfolding printed listing_input listing_output parsed input_of records_from next_record onto read_record number field give onward ◌>>=◌ refuse◌unless◌ number_of bytes_of record_lines open_lines lines_from last_lines op_line refused_line block_line digits four_digits hex_digit hex_bytes flatten flat_map opened answers after_all after leaves answer_to accepted_by record_by finish_by settled read_by update_by changed first_change has those_with line_of every stretch_of byte_at held_at clip clip_piece below inside above filter_map first_of open_refusals record_refusals finish_refusals window_refusals block_refusals too_short insert add_location add_all tree_of trees_of node_count entry_count sum_of path visited window find find_by shows seen cells_by count_from label_of clock_label clock_refusals label_minute shown_on place_from unlisted
boards_right = record {
  boards = marked_right;
  refusals = edges_right;
  files = files_right;
  printed-listing = listing-printed;
  printed_refusal = refusal_printed;
  cut_record = refl;
  wrong_mark = refl;
  short_input = refl;
  refused_opening = refl;
}

kinds_written : file_by (after_all (opened (several ample)) mixed) ≡ mixed_file
unfolding mixed_file opened after_all after leaves answer_to accepted_by record_by finish_by settled read_by update_by changed first_change has those_with line_of every stretch_of byte_at held_at clip clip_piece below inside above filter_map first_of record_refusals finish_refusals too_short insert add_location add_all tree_of trees_of node_count entry_count sum_of count_from bytes_of file_of file_bytes contents block_bytes node_bytes nodes_of map_tree place_in entries_in flatten flat_map
kinds_written = refl

kinds_loaded : map loaded_as kind_files ≡ map (λ (x : Load). x.comes) kind_files
unfolding kind_files mixed_file line_of loaded_as load read_file read_root read_nodes read_block many number field give onward ◌>>=◌ refuse◌unless◌ bytes_of number_of file_of file_bytes contents block_bytes node_bytes nodes_of map_tree place_in those_with has count_from entries_in tree_from placed_in rule20 rule21 rule22 rule23 every halved filled lived numbered placed ascends sorted summed widths count shares apart node_count entry_count sum_of flatten flat_map
kinds_loaded = refl

calendars_right : HoursBoards
unfolding flatten flat_map count_from every hours_at calendar_of covered special_of windows_of open_minute closed_cell label_minute shown_on place_from unlisted hours_taken rises days_ascend calendar_taken pairs hours special calendar no_week monday day_by_day boards night bookings eight offers
calendars_right = record { cells_open = refl; bookings_judged = refl; offers_judged = refl }

hours_right : map played hours_boards ≡ map expected hours_boards
unfolding hours_boards played expected told opened answers after_all after leaves answer_to accepted_by record_by finish_by install_by settled read_by update_by changed first_change has those_with line_of stretch_of byte_at held_at clip clip_piece below inside above filter_map first_of record_refusals finish_refusals install_refusals too_short insert add_location add_all tree_of trees_of node_count entry_count sum_of flatten flat_map count_from every hours_at calendar_of covered special_of windows_of open_minute closed_cell hours_taken rises days_ascend calendar_taken pairs hours special calendar no_week monday label_minute shown_on place_from unlisted
hours_right = refl

lists_right : DaysBoards
unfolding tell short_days stations listed.boards days_of rises_from days_taken length_of span_of start_of unlisted place_from shown_on label_minute label_of clock_label sum_of flatten flat_map count_from hours_at calendar_of covered special_of windows_of open_minute closed_cell
lists_right = record { told = refl; starts = refl; platforms = refl; cells_open = refl; double_hour = refl; taken = refl; untaken = refl }

days_right : map played days_boards ≡ map expected days_boards
unfolding days_boards played expected told opened answers after_all after leaves answer_to accepted_by record_by finish_by install_by install_days_by settled read_by update_by changed first_change has those_with line_of stretch_of byte_at held_at clip clip_piece below inside above filter_map first_of record_refusals finish_refusals install_refusals days_refusals window_refusals clock_refusals too_short insert add_location add_all tree_of trees_of node_count entry_count sum_of flatten flat_map count_from every hours_at calendar_of covered special_of windows_of open_minute closed_cell days_of rises_from days_taken label_minute shown_on place_from unlisted label_of clock_label hours_taken rises days_ascend calendar_taken ascending_from live_by path visited window find find_by
days_right = refl

pub requested_right : RequestedBoards
unfolding touching_boards change_boards kind_boards label_boards scratch_boards played expected told opened answers after_all after leaves answer_to accepted_by record_by finish_by settled read_by update_by changed first_change has those_with line_of every stretch_of byte_at held_at clip clip_piece below inside above filter_map first_of open_refusals record_refusals finish_refusals window_refusals neighbour_refusals too_short insert add_location add_all tree_of trees_of node_count entry_count sum_of path visited window find find_by ascending_from live_by last_in shows seen cells_by count_from label_of clock_label clock_refusals label_minute shown_on place_from unlisted
requested_right = record { item_1 = refl; item_2 = refl; item_3 = refl; item_3_written = kinds_written; item_3_loaded = kinds_loaded; item_4 = refl; item_5 = hours_right; calendars = calendars_right; item_6 = days_right; days = lists_right; item_9 = refl }
