use Rattle.std.proofs.Common.{append_assoc}
use Rattle.vpg_configuration.proofs.document.put_selections.Goals as goal

pub returns : goal.returns
returns c =
    simp (
      c.in_ok-extend_from_slice-7.ensures.items,
      c.in_ok-extend_from_slice-6.ensures.items,
      c.in_ok-extend_from_slice-5.ensures.items,
      c.in_ok-extend_from_slice-4.ensures.items,
      c.in_ok-extend_from_slice-3.ensures.items,
      c.in_ok-extend_from_slice-2.ensures.items,
      c.in_ok-extend_from_slice.ensures.items,
      c.word_of.ensures,
      c.word_of-2.ensures,
      append_assoc,
    )
