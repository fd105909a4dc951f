-- The rules by which the sender puts packets out, in words, and by their names.
use Rattle.std.specs.Prelude.{ℕ, List, codes}
use Rattle.pd_seg.specs.declared.send_rule.SendRule.{SendRule}
use Rattle.pd_seg.specs.declared.send_rule.SendRule.TheVariants.{SynAck, SynAckAgain, Ack, Rst, NewData, Expiry, AfterExpiry, LimitedTransmit, SackLimitedTransmit, FastRetransmit, SackFastRetransmit, NextSegLost, NextSegNew, NextSegHole, NextSegRescue}

-- a rule in words, with the RFC and the section that it comes from
abbrev pub send_rule_words : SendRule → List ℕ
send_rule_words SynAck = codes "SYN/ACK (RFC 9293, section 3.10.7.2)"
send_rule_words SynAckAgain = codes "SYN/ACK at an expiry (RFC 6298, section 5.4)"
send_rule_words Ack = codes "ACK (RFC 9293, section 3.10.7.4)"
send_rule_words Rst = codes "RST (RFC 9293, section 3.10.7.4)"
send_rule_words NewData = codes "new data (RFC 9293, section 3.8.6.2.1)"
send_rule_words Expiry = codes "first segment at an expiry (RFC 6298, section 5.4)"
send_rule_words AfterExpiry = codes "old data after an expiry (RFC 6298, section 5.4)"
send_rule_words LimitedTransmit = codes "limited transmit (RFC 3042)"
send_rule_words SackLimitedTransmit = codes "limited transmit (RFC 6675, section 5, step 3)"
send_rule_words FastRetransmit = codes "fast retransmit (RFC 5681, section 3.2, step 3)"
send_rule_words SackFastRetransmit = codes "fast retransmit (RFC 6675, section 5, step 4.3)"
send_rule_words NextSegLost = codes "lost data (RFC 6675, section 4, NextSeg, rule 1)"
send_rule_words NextSegNew = codes "new data (RFC 6675, section 4, NextSeg, rule 2)"
send_rule_words NextSegHole = codes "data below SACKed data (RFC 6675, section 4, NextSeg, rule 3)"
send_rule_words NextSegRescue = codes "rescue (RFC 6675, section 4, NextSeg, rule 4)"

-- a rule's name: its RFC, and its words there
abbrev pub send_rule_name : SendRule → List ℕ
send_rule_name SynAck = codes "rfc9293.syn-ack"
send_rule_name SynAckAgain = codes "rfc6298.syn-ack-again"
send_rule_name Ack = codes "rfc9293.ack"
send_rule_name Rst = codes "rfc9293.rst"
send_rule_name NewData = codes "rfc9293.new-data"
send_rule_name Expiry = codes "rfc6298.expiry"
send_rule_name AfterExpiry = codes "rfc6298.after-expiry"
send_rule_name LimitedTransmit = codes "rfc3042.limited-transmit"
send_rule_name SackLimitedTransmit = codes "rfc6675.limited-transmit"
send_rule_name FastRetransmit = codes "rfc5681.fast-retransmit"
send_rule_name SackFastRetransmit = codes "rfc6675.fast-retransmit"
send_rule_name NextSegLost = codes "rfc6675.next-seg.lost"
send_rule_name NextSegNew = codes "rfc6675.next-seg.new"
send_rule_name NextSegHole = codes "rfc6675.next-seg.hole"
send_rule_name NextSegRescue = codes "rfc6675.next-seg.rescue"
