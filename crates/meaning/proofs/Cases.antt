-- P1 to P11, the listing of case A, what the writer writes, what is certain of a graph, and empty steps, by computation. Assumes nothing.
use Prim.Native.Nat.{ℕ}
use mathlib.Core.Path.{◌≡◌, refl}
use mathlib.Core.List.{List, map, flat_map}
use lib.ListN.{replicate}
use Rattle.machine.specs.Sets.{has, all_below, any_below, count_below, first_below, mask_below, list_below}
use Rattle.machine.specs.Refusals.{judge}
use Rattle.machine.specs.Machine.{finish, remaining, leads, best, run, holds, added, successors, reached, state_count}
use Rattle.machine.specs.Tables.{rises, stands_at, has_row, prescribed, follows, continues, last_cycle, order_line, sound_lines, schedule_rows}
use Rattle.meaning.specs.Graph.{known, most_operations, most_classes, most_controls, most_arcs, operation_bytes, arc_bytes, byte_at, little_endian, number_at, edition_of, operations_of, classes_of, controls_of, arcs_of, operations_start, controls_start, arcs_start, file_end, file_lines, content, names, misnamed, lacks, operation_count, class_count, control_count, arc_count, limit, class, path, producer, source, target, kind, joins, stray_path, unordered, follows_join, content_lines}
use Rattle.meaning.specs.Steps.{resolved, lost, excluded, void, complete, held_back, demanded, overfull, legal, after, before, same}
use Rattle.meaning.specs.TableFile.{mask_bytes, row_bytes, most_rows, row_start, cycles_of, rows_of, layout_line, table_in, bytes_of, header_file, row_file, row_files, table_file, schedule_file}
use Rattle.meaning.specs.Answers.{answer, is_taken, graph_lines, graph_verdict, schedule_lines, schedule_verdict, scheduler, slots_after, table_after, table_lines, check_verdict, checker}
use Rattle.meaning.specs.Listing.{ascii, digits, decimal, field, first_line, row_line, printed}
use Rattle.meaning.specs.Writer.{Writing, torn, graph_header, graph_file, list_lines, write_lines, writing, write_verdict, writer, output_after}
use Rattle.meaning.specs.Certain.{no_follow_arc, no_limit_zero, certain, certain_cycles, quiet, idling_of}
use Rattle.meaning.specs.Cases.{computed, expected, padded, cases, prints, writings, certainty, certainties, empty_steps, waiting, waitings}

pub cases_hold : map computed cases ≡ map expected cases
unfolding has all_below any_below count_below first_below mask_below list_below judge finish remaining leads best run holds added successors flat_map reached state_count rises stands_at has_row prescribed follows continues last_cycle order_line sound_lines schedule_rows known most_operations most_classes most_controls most_arcs operation_bytes arc_bytes byte_at little_endian number_at edition_of operations_of classes_of controls_of arcs_of operations_start controls_start arcs_start file_end file_lines content names misnamed lacks operation_count class_count control_count arc_count limit class path producer source target kind joins stray_path unordered follows_join content_lines resolved lost excluded void complete held_back demanded overfull legal after before same mask_bytes row_bytes most_rows row_start cycles_of rows_of layout_line table_in bytes_of header_file row_file row_files table_file schedule_file answer is_taken graph_lines graph_verdict schedule_lines schedule_verdict scheduler slots_after table_after table_lines check_verdict checker computed expected padded
cases_hold = refl

-- The listing of case A, as document 01 has it, and two more.
pub prints_hold : map (λ p. printed p.file) prints ≡ map (λ p. ascii p.text) prints
unfolding has all_below any_below count_below first_below mask_below list_below judge finish remaining leads best run holds added successors flat_map reached state_count rises stands_at has_row prescribed follows continues last_cycle order_line sound_lines schedule_rows known most_operations most_classes most_controls most_arcs operation_bytes arc_bytes byte_at little_endian number_at edition_of operations_of classes_of controls_of arcs_of operations_start controls_start arcs_start file_end file_lines content names misnamed lacks operation_count class_count control_count arc_count limit class path producer source target kind joins stray_path unordered follows_join content_lines resolved lost excluded void complete held_back demanded overfull legal after before same mask_bytes row_bytes most_rows row_start cycles_of rows_of layout_line table_in bytes_of header_file row_file row_files table_file schedule_file answer is_taken graph_lines graph_verdict schedule_lines schedule_verdict scheduler slots_after table_after table_lines check_verdict checker ascii digits decimal field first_line row_line printed prints
prints_hold = refl

-- Case A from lists, with room and without, and refusals of lists.
pub writings_hold : map {B = Writing × List ℕ} (λ w. (writer w.graph (replicate w.room 7), output_after w.graph (replicate w.room 7))) writings
    ≡ map {B = Writing × List ℕ} (λ w. (w.answer, w.output)) writings
unfolding has all_below any_below first_below judge known most_operations most_classes most_controls most_arcs operation_bytes arc_bytes byte_at names misnamed lacks operation_count class_count control_count arc_count class path producer source target kind joins stray_path unordered follows_join content_lines bytes_of is_taken torn graph_header graph_file list_lines write_lines writing write_verdict writer output_after writings
writings_hold = refl

-- What is certain of a graph can not be sharpened: the bound is taken, and each condition is needed.
pub certainties_hold : map (λ p. certainty p.0) certainties ≡ map (λ p. p.1) certainties
unfolding has all_below any_below count_below first_below mask_below list_below judge finish remaining leads best run holds added successors flat_map reached state_count schedule_rows known most_operations most_classes most_controls most_arcs operation_bytes arc_bytes byte_at little_endian number_at edition_of operations_of classes_of controls_of arcs_of operations_start controls_start arcs_start file_end file_lines content names misnamed lacks operation_count class_count control_count arc_count limit class path producer source target kind joins stray_path unordered follows_join content_lines resolved lost excluded void complete held_back demanded overfull legal after before same mask_bytes row_bytes most_rows row_start bytes_of header_file row_file row_files table_file schedule_file answer is_taken graph_lines graph_verdict schedule_lines schedule_verdict scheduler no_follow_arc no_limit_zero certain certain_cycles certainty certainties
certainties_hold = refl

-- An empty step is permitted where nothing is demanded, and case A's table may wait a cycle; it then takes one more.
pub empty_steps_hold : map (λ e. (idling_of (content e.file)).legal (record { done = e.done; values = 0 }) 0) empty_steps ≡ map (λ e. e.permitted) empty_steps
unfolding has all_below any_below count_below mask_below byte_at little_endian number_at edition_of operations_of classes_of controls_of arcs_of operations_start controls_start arcs_start file_end content operation_bytes arc_bytes operation_count class_count control_count arc_count limit class path producer source target kind joins resolved lost excluded void complete held_back demanded overfull legal quiet empty_steps
empty_steps_hold = refl

pub waitings_hold : map (λ p. waiting p.0) waitings ≡ map (λ p. p.1) waitings
unfolding has all_below any_below count_below mask_below byte_at little_endian number_at edition_of operations_of classes_of controls_of arcs_of operations_start controls_start arcs_start file_end content operation_bytes arc_bytes operation_count class_count control_count arc_count limit class path producer source target kind joins resolved lost excluded void complete held_back demanded overfull legal quiet first_below run stands_at has_row prescribed after same mask_bytes row_bytes row_start rows_of cycles_of table_in waiting waitings
waitings_hold = refl
