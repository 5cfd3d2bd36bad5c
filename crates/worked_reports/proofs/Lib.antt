mod RoomOfOneStep
