-- `receive::look_run` meets its contract: what is found of the run's frame is what the definitions say of it. Assumes nothing.
use Rattle.std.proofs.Common.{◌≡◌, ℕ, ◌+◌, ◌≤◌, length, ap, ◌∙◌, ap₂, arith, length-drop}
use Rattle.line.specs.Limits.{most_symbols, preamble_size}
use Rattle.station.specs.declared.Part.{Part}
use Rattle.fields.specs.Places.{layout_of}
use Rattle.fields.proofs.Tags.{data_place-small}
use Rattle.fields.proofs.Places.{layout_tags, layout-place}
use Rattle.frame.specs.Frame.{data_from, frame_data}
use Rattle.outcome.specs.Outcomes.{frame_of}
use Rattle.outcome.specs.Status.{status}
use Rattle.outcome.proofs.Words.{word_of_lem}
use Rattle.receive.specs.declared.Answer.TheVariants.{Counted}
use Rattle.receive.specs.declared.Sight.{Sight}
use Rattle.receive.specs.Reading.{handed_part}
use Rattle.receive.specs.Steps.{part_at, sight_of}
use Rattle.receive.proofs.Parts.{part_laid, part-le, part-told}
use Rattle.receive.proofs.look_run.Goals as goal
use Rattle.receive.proofs.look_run.Goals.{After-handed_part-part, After-layout_of-l, After-status-word}

-- what is found is that frame and its layout; the frame is no longer than its run, and its data begins near the front
frame_is : (c : After-layout_of-l) → c.frame_of-f.result.now ≡ (frame_of c.args.run.now)
frame_is c = c.frame_of-f.ensures

layout_is : (c : After-layout_of-l) → c.layout_of-l.result ≡ layout_of ((frame_of c.args.run.now))
layout_is c = c.layout_of-l.ensures ∙ ap layout_of (frame_is c)

small : (c : After-layout_of-l) → length ((frame_of c.args.run.now)) ≤ most_symbols
unfolding frame_of
small c = omega (arith, length-drop preamble_size c.args.run.now)

near : (c : After-layout_of-l) → c.layout_of-l.result.place ≤ 46
near c = omega (arith, layout-place _ ((frame_of c.args.run.now)) (layout_is c), data_place-small ((frame_of c.args.run.now)))

-- so the part is that of the frame
part-is : (c : After-handed_part-part) → let a = c.args in c.handed_part-part.result ≡ handed_part a.s a.o (a.start + 8) ((frame_of c.args.run.now))
part-is c =
    let p = c in
    let a = p.args in
    c.handed_part-part.ensures ∙ ap₂ (part_at a.s.checking a.o (a.start + 8)) (frame_is (goal.at.After-handed_part-part p).After-layout_of-l) (layout_is (goal.at.After-handed_part-part p).After-layout_of-l) ∙ part_laid a.s _ ((frame_of p.args.run.now)) a.o

pub handed_part-part-requires : goal.handed_part-part-requires
handed_part-part-requires c = let place = near c in omega arith

pub status-word-requires : goal.status-word-requires
status-word-requires c =
    let p = c in
    let a = p.args in
    let place = near (goal.at.status-word-requires p).After-layout_of-l in (
      omega (arith, ap length (frame_is (goal.at.status-word-requires p).After-layout_of-l), small (goal.at.status-word-requires p).After-layout_of-l),
      omega (arith, ap (λ (x : Part). x.len) (part-is c), part-le a.s (a.start + 8) ((frame_of p.args.run.now)) a.o, small (goal.at.status-word-requires p).After-layout_of-l),
    )

-- and so is the word
word-is : (c : After-status-word) → let p = c in let a = p.args in c.status-word.result ≡ status a.s a.o ((frame_of p.args.run.now))
unfolding status frame_data
word-is c =
    let p = c in
    let a = p.args in
    let data_is = ap₂ data_from (layout-place _ ((frame_of p.args.run.now)) (layout_is (goal.at.After-status-word p).After-layout_of-l)) (frame_is (goal.at.After-status-word p).After-layout_of-l) in
    word_of_lem a.o c.status-word.ensures (frame_is (goal.at.After-status-word p).After-layout_of-l) (layout_tags _ ((frame_of p.args.run.now)) (layout_is (goal.at.After-status-word p).After-layout_of-l)) (ap length data_is) (ap (λ (x : Part). x.len) (part-is (goal.at.After-status-word c).After-handed_part-part))
    ∙ part-told a.s (a.start + 8) ((frame_of p.args.run.now)) a.o _ _

pub returns : goal.returns
unfolding sight_of
returns c =
    let k = c in
    let a = k.args in
    let made : ℕ → Part → Sight =
    λ word part. record { answer = Counted a.o word part a.way; start = a.start; next = a.start + 1 + length a.run.now } in
    ap₂ made (word-is c) (part-is (goal.at.returns k).After-handed_part-part)
