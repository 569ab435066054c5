-- `writing::put_tags` meets its contract: a turn is `tags_turn`. Assumes nothing.
use native.Mathlib.Omega.{arith}
use mathlib.Core.Path.{sym, ◌∙◌}
use Rattle.line.specs.Octets.{high_first}
use Rattle.splice.proofs.Laws.{put-length}
use Rattle.writing.proofs.Pieces.{tags_turn, tags_end}
use Rattle.writing.proofs.TagLaws.{tag_length}
use Rattle.writing.proofs.put_tags.Goals as goal

pub loop-tag-preserved : goal.loop-tag-preserved
unfolding high_first
loop-tag-preserved c = record {
  long = omega (arith, put-length c.put_tag-next.ensures);
  goes = omega (arith, c.put_tag-next.ensures.goes);
  whole = tags_turn c.loop-tag.tag-index c.args.tags.now _ (omega arith) c.put_tag-next.ensures ∙ c.loop-tag.invariant.whole;
}

pub returns : goal.returns
returns c = record {
  goes = omega (arith, tag_length c.args.tags.now);
  holds = sym (tags_end _ _ c.loop-tag.tag-index c.args.tags.now (omega arith)) ∙ c.loop-tag.invariant.whole;
}
