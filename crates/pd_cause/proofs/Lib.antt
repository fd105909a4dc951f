-- Lemmas on reasons, ends of runs, runs that are taken up, origins of packets, packets that no line asks for, dropped segments, and leftovers.
pub mod ActualPacketLemmas
pub mod WindowLemmas
pub mod StopIsThere
pub mod LeftoverLemmas
pub mod ResumedRun
pub mod UnexpectedLemmas
pub mod OutlookLemmas
pub mod TriggerLemmas
pub mod NotedStop
pub mod OriginLemmas
pub mod TracedLemmas
pub mod DroppedLemmas
