-- The starred cases of document 01: from the bytes that each program reads, the definitions compute the bytes that it prints.
-- Assumes nothing.
use mathlib.Core.Path.{◌≡◌, refl}
use mathlib.Core.List.{map}
use Rattle.network.specs.Networks.{empty_network}
use Rattle.file_stages.specs.Stages.{next_stage}
use Rattle.file_fields.specs.Fields.{word, length_of, head_rules, flags_rules, plain_link_rules, guard_rules, link_rules, plan_head_rules, step_rules, field_rules}
use Rattle.file_fields.specs.Views.{nothing_seen, network_seen, links_seen}
use Rattle.file_records.specs.Records.{frame_rules_by, record_rules_by, due_by}
use Rattle.file_network.specs.Runs.{records_by}
use Rattle.file_network.specs.NetworkFiles.{narrow_element, element_of, guard_of, link_of, with_element, with_link, end_on_by, links_on_by, elements_on_by, network_file_by}
use Rattle.file_network.specs.Inputs.{network_input_by, network_read}
use Rattle.feeding.specs.Below.{sum_to, all_to, any_to, least_to, lowest_from, lowest, those, tabulate}
use Rattle.feeding.specs.Networks.{grid_of, net_of}
use Rattle.feeding.specs.Parts.{touches, far, relabel, merge, link, labels, label, joined?, sound?, live?}
use Rattle.feeding.specs.Loads.{leads, element_load, margin, above, element_over, lowest_over}
use Rattle.feeding.specs.Safety.{loop_at, looped?, paired?, fault_live?, tree_place, pair_place, fault_place, safe?}
use Rattle.feeding.specs.Restoration.{spoiled?, clean, restorable?, waits?, operable?, operables_by, restored?}
use Rattle.feeding.specs.Plans.{put, run, operations, sweep, printed_form, flip}
use Rattle.feeding.specs.Costs.{steps_cost, operated, guards?, guard_cost, cost_of, switches_cost, set_cost}
use Rattle.feeding.specs.Acceptance.{broken_at, safety, limited, and_then, acceptance_by}
use Rattle.feeding_acceptance.specs.Reading.{handed_out, accepted_read}
use Rattle.feeding_start.specs.Starting.{start_with}
use Rattle.plan_problem.specs.Choosing.{works_by, first_if, no_dearer, better, best, planned_by, printed_plan}
use Rattle.plan_sums.specs.Sums.{sums_over, sums_after}
use Rattle.file_plan.specs.PlanFiles.{empty_plan, with_step, plan_end_on_by, steps_on_by, plan_file_by}
use Rattle.file_plan.specs.Inputs.{plan_input_by}
use Rattle.file_both.specs.Inputs.{plan_behind_by, both_input_by, both_read}
use Rattle.plan_form.specs.Printing.{with_one, plan_with, steps_to, steps_of}
use Rattle.file_writer.specs.Writing.{plan_head_bytes, step_bytes, end_bytes}
use Rattle.texts.specs.Texts.{digits, decimal, field, line_of, refused_line}
use Rattle.plan_lines.specs.Lines.{plan_line, step_line, step_lines, load_line, text_of, reply_text, tail_lines, plan_lines, none_lines}
use Rattle.plan_outcome.specs.Outcomes.{outcome_with, outcome_without, outcome_from, outcome_for, outcome_read, outcome_by}
use Rattle.planner.specs.Replies.{lines_with, lines_of}
use Rattle.judge_marks.specs.Marks.{examined, first_bad, step_examined, steps_examined, dark_place, standing_at, standing_after, standing_by, scored_at, mark_with, mark_by, cost_in, cheapest_under, mark_under}
use Rattle.judge_line.specs.MarkLines.{mark_line}
use Rattle.judge.specs.Judging.{mark_accepted, mark_of_read, mark_for_by}
use Rattle.starred.specs.Tables.{head, element, joins, network_b, network_d, no_steps, closing, text, prints, plans, marks, cases}

-- the table is computed whole: the line names every definition from the reader of records_by to the printed lines
pub tried : map (λ c. prints c.program c.input) cases ≡ map (λ c. c.printed) cases
unfolding empty_network next_stage word length_of frame_rules_by head_rules flags_rules plain_link_rules guard_rules link_rules guard_of plan_head_rules step_rules field_rules nothing_seen network_seen links_seen record_rules_by
    due_by records_by narrow_element element_of link_of with_element with_link end_on_by links_on_by elements_on_by network_file_by network_input_by sum_to all_to any_to least_to lowest_from lowest
    those tabulate grid_of net_of touches far relabel merge link labels label joined? sound? live? leads element_load margin above element_over
    lowest_over loop_at looped? paired? fault_live? tree_place pair_place fault_place safe? spoiled? clean restorable? waits? operable? operables_by
    restored? put run steps_cost operations operated guards? guard_cost cost_of sweep printed_form flip switches_cost set_cost broken_at safety limited and_then acceptance_by handed_out start_with
    accepted_read works_by first_if no_dearer better best planned_by printed_plan sums_over sums_after empty_plan with_one plan_with end_bytes digits decimal field plan_line
    step_line step_lines load_line text_of reply_text tail_lines plan_lines none_lines refused_line outcome_with outcome_without outcome_from outcome_for outcome_read
    outcome_by lines_with lines_of with_step plan_end_on_by steps_on_by plan_file_by plan_input_by plan_behind_by both_input_by steps_to steps_of examined first_bad
    step_examined steps_examined dark_place standing_at standing_after standing_by scored_at mark_with mark_by cost_in cheapest_under mark_under line_of mark_line mark_accepted mark_of_read
    mark_for_by plan_head_bytes step_bytes head element joins network_b network_d no_steps closing text prints plans marks cases
tried = refl
