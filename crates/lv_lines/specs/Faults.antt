-- The numbers of the faults.
use Rattle.std.specs.Prelude.{ℕ}
use Rattle.lv_lines.specs.declared.fault.Fault.{Fault}
use Rattle.lv_lines.specs.declared.fault.Fault.TheVariants.{NoMemory, ReadFault, TooLong, WriteFault}

-- the number by which a fault is shown
abbrev pub fault_number : Fault → ℕ
fault_number NoMemory = 6
fault_number ReadFault = 13
fault_number TooLong = 13
fault_number WriteFault = 14
