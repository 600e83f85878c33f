use Rattle.name_index.proofs.AtIndex.{Followed}
use Rattle.name_index.proofs.index_bytes.follow.Given as goal

-- the entries so far were read, their keys ascend, and so many bytes are left
abbrev pub invariant-loop-index : goal.invariant-loop-index
invariant-loop-index l = Followed l.bytes l.len l.last l.left l.index
