-- The words in which this crate is proved, passed on from one place. Declares nothing.
pub use Rattle.std.proofs.Common.{ap, arith, eqb-true, get_or, inl, inr, refl, set, subst, sym, ◌∙◌}
pub use Rattle.std.proofs.lemmas.List.{ext_get_or, get_or-set_other, get_or_default, take-append-drop}
pub use Rattle.std.proofs.lemmas.List.FromFn.{fill_by_all, get_or-map-range_with_len, length-map-range_with_len}
pub use Rattle.std.specs.Prelude.{Bool, drop, false, is_some, map, nat_eq, not, Option, option_and_then, slice_get, Some, suc, take, true, unwrap_or, zero, [], ◌%◌, ◌&&◌, ◌++◌, ◌/◌, ◌==◌, ◌∷◌, ◌≢◌}
pub use Rattle.aggregate.proofs.RightRow.{IsRightRow-right_row, right_row}
unfoldable pub use Rattle.algebra_laws.specs.Poly.{is_seen as is_seen_over}
pub use Rattle.challenge.specs.Asked.{asked}
pub use Rattle.code_defs.specs.Polynomials.{agree, is_seen, value}
pub use Rattle.column_defs.proofs.PointLaws.{Apart-points}
pub use Rattle.column_defs.specs.Challenges.{bare_answer, bare_answers, Challenge, combined, held_symbol, honest_answer, mask_sum, picked_row, right_answer, symbol_at}
unfoldable pub use Rattle.column_defs.specs.Challenges.{all_held, alpha, sum_over}
pub use Rattle.column_defs.specs.Columns.{columns}
pub use Rattle.column_defs.specs.Keys.{point_of, stream_symbol}
pub use Rattle.column_defs.specs.Objects.{is_primary, Object, point, points, symbols_in}
pub use Rattle.column_defs.specs.Verdicts.{counts_after, Decides, Judges, Sums}
pub use Rattle.file_layout.specs.Files.{shaped_object}
pub use Rattle.hail_field.proofs.AllNumbers.{nim_laws, nim_ring}
pub use Rattle.hail_field.specs.Nim.{nim, nim_add, nim_mul}
unfoldable pub use Rattle.hail_field.specs.Nim.{nim_pow}
pub use Rattle.audit_verdict.specs.Rounds.{answer_of, count_of_provider, DiffersOnce, HasFewWrong, is_right, own_symbol, wrong_answers}
