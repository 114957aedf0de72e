use Rattle.oxc_sourcemap_plan.specs.Repeats.{is_same_mapping, decoded_map_without_repeats}
use Rattle.oxc_sourcemap_plan.proofs.DroppingRepeats.{up_to_repeats_by}
use Rattle.oxc_sourcemap_plan.proofs.Same.{decides_entry}
use Rattle.oxc_sourcemap_plan.proofs.UpToRepeats.{matches, without_repeats_is_up_to_repeats}
use Rattle.oxc_sourcemap_plan.proofs.UpToRepeats.{trace_up_to_repeats, clamped_trace_up_to_repeats}
use Rattle.oxc_sourcemap_plan.proofs.UpToRepeats.{sorted_decoded_map_up_to_repeats}
use Rattle.oxc_sourcemap_plan.proofs.UpToRepeats.{joined_up_to_repeats}
use Rattle.oxc_sourcemap_plan.proofs.JoinDecodedMaps.{decoded_map_joined}
use Rattle.oxc_sourcemap_plan.proofs.JoinStands.{range_joined, entries_joined, count_joined}
use Rattle.oxc_sourcemap_plan.proofs.JoinStands.{names_joined, join_sorted, join_stands}
use Rattle.oxc_sourcemap_plan.proofs.Sections.{value_of_sections, text_of_sections}
use Rattle.oxc_sourcemap_plan.proofs.laws.dropping_harmless.Goals as goal

pub returns-clause-repeats : goal.returns-clause-repeats
returns-clause-repeats c = λ s. let e = without_repeats_is_up_to_repeats s in (λ line col. (trace_up_to_repeats (decoded_map_without_repeats s) s e line col, clamped_trace_up_to_repeats (decoded_map_without_repeats s) s e line col), sorted_decoded_map_up_to_repeats (decoded_map_without_repeats s) s e)

pub returns-clause-traces_agree : goal.returns-clause-traces_agree
returns-clause-traces_agree c = λ s t e line col. (trace_up_to_repeats s t e line col, clamped_trace_up_to_repeats s t e line col)

pub returns-clause-tests_agree : goal.returns-clause-tests_agree
returns-clause-tests_agree c = λ test blind s t e. up_to_repeats_by is_same_mapping decides_entry test blind s.mappings t.mappings (matches s t e).mappings

pub returns-clause-joins_up_to_repeats : goal.returns-clause-joins_up_to_repeats
returns-clause-joins_up_to_repeats c = joined_up_to_repeats

pub returns-clause-decoded_map_of_join : goal.returns-clause-decoded_map_of_join
returns-clause-decoded_map_of_join c = decoded_map_joined

pub returns-clause-in_range : goal.returns-clause-in_range
returns-clause-in_range c = λ ms. (range_joined ms, entries_joined ms)

pub returns-clause-stands_for : goal.returns-clause-stands_for
returns-clause-stands_for c = λ ms ss h. (join_sorted ms ss h, join_stands ms ss h)

pub returns-clause-names : goal.returns-clause-names
returns-clause-names c = names_joined

pub returns-clause-tokens : goal.returns-clause-tokens
returns-clause-tokens c = count_joined

pub returns-clause-value_of_sections : goal.returns-clause-value_of_sections
returns-clause-value_of_sections c = value_of_sections

pub returns-clause-text_of_sections : goal.returns-clause-text_of_sections
returns-clause-text_of_sections c = text_of_sections
