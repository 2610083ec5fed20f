-- What is known grows line by line, as `Headers` has it: each return gives one of its refusals, or what the rows are judged to be.
use Rattle.std.proofs.Common.{◌≡◌, ℕ, Option, None, sym, ap, ◌∙◌, arith}
use Rattle.std.proofs.lemmas.Result.{err_from_is_err_and}
use Rattle.std.specs.Option.{ok_or}
use Rattle.std.specs.Prelude.{Result}
use Rattle.std.specs.Prelude.{Err}
use Rattle.floor.specs.declared.refusals.Refusal.{Refusal}
use Rattle.maptext.proofs.Headers.{refused_21, refused_22, has_height, no_width, has_width, no_map, rows_place, short_cells, rows_refused, rows_passed}
use Rattle.maptext.proofs.reader.judge_map.Goals as goal

-- no side was found, so the error is the one that was to be given
missing : {o : Option ℕ} {e r : Refusal} → o ≡ None → Err e ≡ ok_or o r → e ≡ r
missing {o} {e} {r} none given = let same : ◌≡◌ {A = Result ℕ Refusal} (Err e) (Err r) = given ∙ ap (λ (p : Option ℕ). ok_or p r) none in cc

pub returns-then-not-begins_at : goal.returns-then-not-begins_at
returns-then-not-begins_at c = refused_21 c.args.text.now c.args.room (sym c.begins_at.ensures ∙ c.if-not-begins_at.true)

pub returns-in_err-height : goal.returns-in_err-height
returns-in_err-height c =
    let none = c.in_err-height.ensures.ok_part in
    let told = err_from_is_err_and c.from_residual.result c.from_residual.ensures.1 in
    let refusal = missing none c.in_err-height.ensures.value in
    rw (told.1, told.2, refusal) (refused_22 c.args.text.now c.args.room (sym c.begins_at.ensures ∙ c.if-not-begins_at.false) (rw none at c.side_at.ensures))

pub overflow_add-width_at : goal.overflow_add-width_at
overflow_add-width_at c =
    let height = has_height c.args.text.now (sym c.begins_at.ensures ∙ c.if-not-begins_at.false) (rw c.in_ok-height.ensures.ok_part at c.side_at.ensures) c.side_line_length-width_at.ensures in
    omega (arith, height.inside)

pub side_at-requires-2 : goal.side_at-requires-2
side_at-requires-2 c =
    let height = has_height c.args.text.now (sym c.begins_at.ensures ∙ c.if-not-begins_at.false) (rw c.in_ok-height.ensures.ok_part at c.side_at.ensures) c.side_line_length-width_at.ensures in
    (omega arith, height.inside)

pub returns-in_err-width : goal.returns-in_err-width
returns-in_err-width c =
    let height = has_height c.args.text.now (sym c.begins_at.ensures ∙ c.if-not-begins_at.false) (rw c.in_ok-height.ensures.ok_part at c.side_at.ensures) c.side_line_length-width_at.ensures in
    let none = c.in_err-width.ensures.ok_part in
    let told = err_from_is_err_and c.from_residual-in_err-width.result c.from_residual-in_err-width.ensures.1 in
    let refusal = missing none c.in_err-width.ensures.value in
    rw (told.1, told.2, refusal) (no_width c.args.text.now c.args.room height (rw none at c.side_at-2.ensures))

pub overflow_add-map_at : goal.overflow_add-map_at
overflow_add-map_at c =
    let height = has_height c.args.text.now (sym c.begins_at.ensures ∙ c.if-not-begins_at.false) (rw c.in_ok-height.ensures.ok_part at c.side_at.ensures) c.side_line_length-width_at.ensures in
    let width = has_width c.args.text.now height (rw c.in_ok-width.ensures.ok_part at c.side_at-2.ensures) c.side_line_length.ensures in
    omega (arith, width.inside)

pub begins_at-requires-2 : goal.begins_at-requires-2
begins_at-requires-2 c =
    let height = has_height c.args.text.now (sym c.begins_at.ensures ∙ c.if-not-begins_at.false) (rw c.in_ok-height.ensures.ok_part at c.side_at.ensures) c.side_line_length-width_at.ensures in
    let width = has_width c.args.text.now height (rw c.in_ok-width.ensures.ok_part at c.side_at-2.ensures) c.side_line_length.ensures in
    width.inside

pub returns-then-not-begins_at-2 : goal.returns-then-not-begins_at-2
returns-then-not-begins_at-2 c =
    let height = has_height c.args.text.now (sym c.begins_at.ensures ∙ c.if-not-begins_at.false) (rw c.in_ok-height.ensures.ok_part at c.side_at.ensures) c.side_line_length-width_at.ensures in
    let width = has_width c.args.text.now height (rw c.in_ok-width.ensures.ok_part at c.side_at-2.ensures) c.side_line_length.ensures in
    no_map c.args.text.now c.args.room width (sym c.begins_at-2.ensures ∙ c.if-not-begins_at-2.true)

pub returns-then-room-width : goal.returns-then-room-width
returns-then-room-width c =
    let height = has_height c.args.text.now (sym c.begins_at.ensures ∙ c.if-not-begins_at.false) (rw c.in_ok-height.ensures.ok_part at c.side_at.ensures) c.side_line_length-width_at.ensures in
    let width = has_width c.args.text.now height (rw c.in_ok-width.ensures.ok_part at c.side_at-2.ensures) c.side_line_length.ensures in
    let map = sym c.begins_at-2.ensures ∙ c.if-not-begins_at-2.false in
    short_cells c.args.text.now c.args.room width map c.if-room-width.true

pub judge_rows-requires : goal.judge_rows-requires
judge_rows-requires c =
    let height = has_height c.args.text.now (sym c.begins_at.ensures ∙ c.if-not-begins_at.false) (rw c.in_ok-height.ensures.ok_part at c.side_at.ensures) c.side_line_length-width_at.ensures in
    let width = has_width c.args.text.now height (rw c.in_ok-width.ensures.ok_part at c.side_at-2.ensures) c.side_line_length.ensures in
    let map = sym c.begins_at-2.ensures ∙ c.if-not-begins_at-2.false in
    rows_place c.args.text.now c.args.room width map

pub returns-in_err-judge_rows : goal.returns-in_err-judge_rows
returns-in_err-judge_rows c =
    let height = has_height c.args.text.now (sym c.begins_at.ensures ∙ c.if-not-begins_at.false) (rw c.in_ok-height.ensures.ok_part at c.side_at.ensures) c.side_line_length-width_at.ensures in
    let width = has_width c.args.text.now height (rw c.in_ok-width.ensures.ok_part at c.side_at-2.ensures) c.side_line_length.ensures in
    let map = sym c.begins_at-2.ensures ∙ c.if-not-begins_at-2.false in
    let told = err_from_is_err_and c.from_residual-in_err-judge_rows.result c.from_residual-in_err-judge_rows.ensures.1 in
    rw (told.1, told.2) (rows_refused c.args.text.now c.args.room width map (omega arith) (sym c.in_err-judge_rows.ensures))

pub returns : goal.returns
returns c =
    let height = has_height c.args.text.now (sym c.begins_at.ensures ∙ c.if-not-begins_at.false) (rw c.in_ok-height.ensures.ok_part at c.side_at.ensures) c.side_line_length-width_at.ensures in
    let width = has_width c.args.text.now height (rw c.in_ok-width.ensures.ok_part at c.side_at-2.ensures) c.side_line_length.ensures in
    let map = sym c.begins_at-2.ensures ∙ c.if-not-begins_at-2.false in
    rows_passed c.args.text.now c.args.room width map (omega arith) (sym c.in_ok-judge_rows.ensures)
